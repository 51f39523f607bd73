-- Where the refusal of a job lies: "12 to 20: the first row that shows it, for 16 the 13th optional row, and the figures that were compared."
-- `fill` is what is held for a soil and a slope: what the two fill books say for the job's member (02, P4).
use Rattle.std.specs.Prelude.{ℕ, ◌≡◌, take}
use Rattle.kinds.specs.declared.Row.{Row}
use Rattle.kinds.specs.Table.{train}
use Rattle.jobs.specs.declared.Job.{Job}
use Rattle.earth.specs.coefficients.Coefficients.{Coefficient}
use Rattle.earth.specs.Earth.{backfill_in}
use Rattle.current.specs.Current.{shaft_in}
use Rattle.surcharge.specs.Surcharge.{abutment_in, B}
use Rattle.scour.specs.Scour.{waterway_in, Constricted}
use Rattle.clearance.specs.Clear.{opening_of}
use Rattle.loads.specs.LoadRows.{optionals}
use Rattle.answer.specs.Rules.{load_rows_of, Refuses, Unrefused}
use Rattle.job_faults.specs.declared.JobFault.{JobFault}
use Rattle.job_faults.specs.declared.JobFault.TheVariants.{Sound, OutOfRange, LargeCatchment, TooIntense, OverObstructed, NoFill, TooManyOptional, UpperBelowLower, NoTrain, NotAbove, TypeE}
use Rattle.job_faults.specs.declared.rules.Rule.{Rule}
use Rattle.job_faults.specs.declared.rules.Rule.TheVariants as rules
use Rattle.job_faults.specs.First.{First}
use Rattle.job_faults.specs.JobRows.{rows_in}
use Rattle.job_faults.specs.Out.{OutOf}
use Rattle.job_faults.specs.rules.Shows.{rule_number, Shows}

-- a row of a job shows a refusal, by the optional rows that stand before it
abbrev pub ShownAt : (ℕ → ℕ → Coefficient) → Job → Rule → ℕ → Row → Type 0
ShownAt fill job rule place row = Shows fill job rule (optionals (take place (rows_in job))) row

-- the job is refused with a number, this row is the first that shows it, and the figures are the row's
pub record Lies (fill : ℕ → ℕ → Coefficient) (job : Job) (rule : Rule) (position : ℕ) (Figures : Row → Type 0) : Type 0 where
  pub refuses : Refuses fill job (rule_number rule)
  pub row : Row
  pub first : First (ShownAt fill job rule) (rows_in job) position row
  pub figures : Figures row

-- where the refusal of a job lies, and the figures that were compared
abbrev pub JobLies : (ℕ → ℕ → Coefficient) → Job → JobFault → Type 0
JobLies fill job Sound = Unrefused fill job
JobLies fill job (OutOfRange out) = Lies fill job rules.OutOfRange out.row (λ row. OutOf row out)
JobLies fill job (LargeCatchment p catchment) = Lies fill job rules.LargeCatchment p (λ row. catchment ≡ (waterway_in job.scour).catchment)
JobLies fill job (TooIntense p q) = Lies fill job rules.TooIntense p (λ row. Constricted (waterway_in job.scour) q)
JobLies fill job (OverObstructed p obstructed area) =
    Lies fill job rules.OverObstructed p (λ row. (obstructed ≡ (opening_of job.clearance).obstructed) × (area ≡ (opening_of job.clearance).area))
JobLies fill job (NoFill p soil slope) = Lies fill job rules.NoFill p (λ row. (soil ≡ (backfill_in row.numbers).soil) × (slope ≡ (backfill_in row.numbers).slope))
JobLies fill job (TooManyOptional p optional) = Lies fill job rules.TooManyOptional p (λ row. optional ≡ optionals (load_rows_of job))
JobLies fill job (UpperBelowLower p upper lower) = Lies fill job rules.UpperBelowLower p (λ row. (upper ≡ (shaft_in row.numbers).upper) × (lower ≡ (shaft_in row.numbers).lower))
JobLies fill job (NoTrain p named) = Lies fill job rules.NoTrain p (λ row. named ≡ train row.kind row.numbers)
JobLies fill job (NotAbove p length width) = Lies fill job rules.NotAbove p (λ row. (length ≡ (abutment_in row.numbers).length) × (width ≡ B (abutment_in row.numbers)))
JobLies fill job (TypeE p) = Lies fill job rules.TypeE p (λ row. Unit {0})

-- the number of a refusal, and 0 for none
abbrev pub number_of : JobFault → ℕ
number_of Sound = 0
number_of (OutOfRange out) = 11
number_of (LargeCatchment p catchment) = 12
number_of (TooIntense p q) = 13
number_of (OverObstructed p obstructed area) = 14
number_of (NoFill p soil slope) = 15
number_of (TooManyOptional p optional) = 16
number_of (UpperBelowLower p upper lower) = 17
number_of (NoTrain p named) = 18
number_of (NotAbove p length width) = 19
number_of (TypeE p) = 20
