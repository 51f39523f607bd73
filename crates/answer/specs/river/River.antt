-- Document 01, what the river rows of a job give it, where it has them: refusals 12 to 14, and the lines SC and CL.
use Rattle.std.specs.Prelude.{ℕ, ◌≤◌, ◌≡◌, Bool, true, pos}
use Rattle.arithmetic.specs.decides.Decides.{Decides}
use Rattle.jobs.specs.declared.Job.{Job}
use Rattle.answer.specs.Columns.{base_of}
use Rattle.jobs.specs.stages.Rows.{HasScour, HasClearance}
use Rattle.scour.specs.Scour.{waterway_in, ScourTold, needs, ScourRule}
use Rattle.clearance.specs.Clear.{opening_of, Cleared, AtLeast, ClearanceTold, given}
use Rattle.arithmetic.specs.declared.signed.Amount.{Amount}
use Rattle.arithmetic.specs.signed.Whole.{amount}
use Rattle.lines.specs.declared.RiverLine.{RiverLine}
use Rattle.lines.specs.declared.RiverLine.TheVariants as line

-- the job has an S row, and its columns give this
pub record ScourGives (job : Job) (t : ScourTold) : Type 0 where
  pub has : HasScour job.stage
  -- "On rock no depth is needed, but 12 and 13 still apply.": no strata are asked for
  pub rule : ScourRule (waterway_in job.scour) t

-- the job has a C row, and its columns give this with the Q of the S row
pub record ClearanceGives (job : Job) (t : ClearanceTold) : Type 0 where
  pub has : HasClearance job.stage
  pub rule : Cleared (opening_of job.clearance) (waterway_in job.scour).discharge t

-- the base stands on rock
abbrev pub OnRock : Job → Type 0
OnRock job = (base_of job.base).rock ≡ true

-- SC is due: soil, with S
pub record Founded (job : Job) : Type 0 where
  pub soil : OnRock job → ⊥
  pub has : HasScour job.stage

-- SC: value needed, limit found; it needs value <= limit. 02, P7: "SC reports the rounding of the 1.33"
pub record DepthShown (job : Job) (depth : Amount) (found : ℕ) (passes exact : Bool) : Type 0 where
  pub soil : OnRock job → ⊥
  pub needed : ℕ
  pub gives : ScourGives job (needs needed exact)
  pub value : depth ≡ amount (pos needed)
  pub limit : found ≡ (waterway_in job.scour).depth
  pub mark : Decides passes (needed ≤ found)

-- the line SC of a job: "soil, with S", and missing on rock or without S
abbrev pub DepthIs : Job → RiverLine → Type 0
DepthIs job line.Missing = Founded job → ⊥
DepthIs job (line.Shown depth found passes exact) = DepthShown job depth found passes exact

-- CL: with C; value underside - flood - afflux, limit the clearance needed; it needs value >= limit. 02, P7: "CL that of the afflux"
pub record ClearShown (job : Job) (clearance : Amount) (needed : ℕ) (passes exact : Bool) : Type 0 where
  pub gives : ClearanceGives job (given clearance needed exact)
  pub mark : Decides passes (AtLeast clearance needed)

-- the line CL of a job: "with C", and missing without
abbrev pub ClearIs : Job → RiverLine → Type 0
ClearIs job line.Missing = HasClearance job.stage → ⊥
ClearIs job (line.Shown clearance needed passes exact) = ClearShown job clearance needed passes exact
