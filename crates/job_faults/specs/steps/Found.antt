-- What `first_row` answers: the first row of a job that shows a refusal, or none.
use Rattle.std.specs.Prelude.{ℕ, List, Option, Some, None}
use Rattle.kinds.specs.declared.Row.{Row}
use Rattle.jobs.specs.declared.Job.{Job}
use Rattle.earth.specs.coefficients.Coefficients.{Coefficient}
use Rattle.job_faults.specs.declared.rules.Rule.{Rule}
use Rattle.job_faults.specs.First.{StandsAt, First}
use Rattle.job_faults.specs.JobRows.{rows_in}
use Rattle.job_faults.specs.Faults.{ShownAt}

-- none has P
abbrev pub NoneHas : {A : Type 0} → (ℕ → A → Type 0) → List A → Type 0
NoneHas {A} P xs = (i : ℕ) (a : A) → StandsAt xs i a → P i a → ⊥

-- no row shows it
abbrev pub Unshown : (ℕ → ℕ → Coefficient) → Job → Rule → Type 0
Unshown fill job rule = NoneHas (ShownAt fill job rule) (rows_in job)

abbrev pub FoundIs : (ℕ → ℕ → Coefficient) → Job → Rule → Option (ℕ × Row) → Type 0
FoundIs fill job rule (Some found) = First (ShownAt fill job rule) (rows_in job) found.0 found.1
FoundIs fill job rule None = Unshown fill job rule
