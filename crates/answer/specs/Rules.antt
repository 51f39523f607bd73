-- Document 01, Refusals of a job: 11 to 16, and 02, P1: 17, P3: 18, P4: 15, and P5: 19 and 20, over the whole job.
-- `fill` is what is held for a soil and a slope: what the two fill books say for the job's member (02, P4).
use Rattle.std.specs.Prelude.{ℕ, ◌<◌, List, take}
use Rattle.arithmetic.specs.rounding.Least.{Least}
use Rattle.kinds.specs.declared.Row.{Row}
use Rattle.jobs.specs.declared.Job.{Job}
use Rattle.earth.specs.coefficients.Coefficients.{Coefficient}
use Rattle.loads.specs.LoadRows.{AllRanged, NoneBlank, AllUpright, AllNamed, AllAbove, NoTypeE, optionals}
use Rattle.jobs.specs.stages.Rows.{RowsRanged}
use Rattle.scour.specs.Scour as scour
use Rattle.clearance.specs.Clear as clearance
use Rattle.answer.specs.river.River.{ScourGives, ClearanceGives}

-- the job's load rows
abbrev pub load_rows_of : Job → List Row
load_rows_of job = take job.count job.loads

-- every number of every row is in its range
pub record AllInRange (job : Job) : Type 0 where
  pub rows : RowsRanged job
  pub loads : AllRanged (load_rows_of job)

-- for no E row "neither book has a value"
abbrev pub AllFilled : (ℕ → ℕ → Coefficient) → Job → Type 0
AllFilled fill job = NoneBlank fill (load_rows_of job)

-- "given exactly when"
pub data When (fill : ℕ → ℕ → Coefficient) (job : Job) : ℕ → Type 0 where
  -- a number out of range
  out_of_range : (AllInRange job → ⊥) → When fill job 11
  -- catchment above 25,000
  large_catchment : ScourGives job (scour.refused 12) → When fill job 12
  -- the constricted rule applies and q is above 50,000
  too_intense : ScourGives job (scour.refused 13) → When fill job 13
  -- a above A
  over_obstructed : ClearanceGives job (clearance.refused 14) → When fill job 14
  -- neither book has a value
  blank : (AllFilled fill job → ⊥) → When fill job 15
  -- more than 12 optional load rows
  too_many : 12 < optionals (load_rows_of job) → When fill job 16
  -- upper below lower
  upper_below_lower : (AllUpright (load_rows_of job) → ⊥) → When fill job 17
  -- the row named is missing or is not LL
  no_train : (AllNamed (load_rows_of job) → ⊥) → When fill job 18
  -- length not above B
  not_above : (AllAbove (load_rows_of job) → ⊥) → When fill job 19
  -- soil type e
  type_e : (NoTypeE (load_rows_of job) → ⊥) → When fill job 20

-- "Order as numbered": a job is refused with the least of its numbers
abbrev pub Refuses : (ℕ → ℕ → Coefficient) → Job → ℕ → Type 0
Refuses fill job n = Least (When fill job) n

-- "the job isn't refused": none of 11 to 20 is given
abbrev pub Unrefused : (ℕ → ℕ → Coefficient) → Job → Type 0
Unrefused fill job = (n : ℕ) → When fill job n → ⊥
