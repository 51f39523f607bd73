-- Document 01, the job book: "A job is a B row, at most one S, at most one C (only after S), then 1 to 16 load rows .., all with one key.
-- The next B starts the next job."
use Rattle.std.specs.Prelude.{ℕ, ◌≤◌, ◌<◌, ◌≡◌, ◌⊎◌}
use Rattle.kinds.specs.declared.Role.{Role}
use Rattle.kinds.specs.declared.Role.TheVariants.{Base, Scour, Clearance, Load}
use Rattle.jobs.specs.declared.stages.Stage.{Stage}
use Rattle.jobs.specs.declared.stages.Stage.TheVariants.{Unbegun, Dry, Scoured}

-- a row of this role is in place in a job at this stage with so many load rows; `same` says that it has the job's key.
-- A B row: behind no job, or one with a load row. S: right behind B. C: right behind S. A load row: up to 16 of them
abbrev pub Fits : Role → Stage → ℕ → Type 0 → Type 0
Fits Base stage count same = (stage ≡ Unbegun) ⊎ (1 ≤ count)
Fits Scour stage count same = (stage ≡ Dry) × (count ≡ 0) × same
Fits Clearance stage count same = (stage ≡ Scoured) × (count ≡ 0) × same
Fits Load stage count same = (stage ≡ Unbegun → ⊥) × (count < 16) × same
