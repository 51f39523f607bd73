-- What `river_of` answers, which is private: the refusals 11 to 14 of a job's river rows in their order, or their lines.
use Rattle.std.specs.Prelude.{Result, Ok, Err}
use Rattle.kinds.specs.ranges.Range.{Ranged}
use Rattle.kinds.specs.declared.Kind.TheVariants.{S, C}
use Rattle.jobs.specs.declared.Job.{Job}
use Rattle.jobs.specs.stages.Rows.{HasScour, HasClearance}
use Rattle.scour.specs.Scour as scour
use Rattle.clearance.specs.Clear as clearance
use Rattle.lines.specs.declared.RiverLine.{RiverLine}
use Rattle.answer.specs.river.River.{ScourGives, ClearanceGives, DepthIs, ClearIs}
use Rattle.kinds.specs.declared.refusals.JobRefusal.{JobRefusal}
use Rattle.kinds.specs.declared.refusals.JobRefusal.TheVariants as refusal

-- 12, 13 and 14, as `When` has them
abbrev pub LargeCatchment : Job → Type 0
LargeCatchment job = ScourGives job (scour.refused 12)

abbrev pub TooIntense : Job → Type 0
TooIntense job = ScourGives job (scour.refused 13)

abbrev pub OverObstructed : Job → Type 0
OverObstructed job = ClearanceGives job (clearance.refused 14)

-- 11, of the S and C rows that there are
pub record RiverRanged (job : Job) : Type 0 where
  pub scour : HasScour job.stage → Ranged S job.scour
  pub clearance : HasClearance job.stage → Ranged C job.clearance

pub record ScourAllowed (job : Job) : Type 0 where
  pub catchment : LargeCatchment job → ⊥
  pub intensity : TooIntense job → ⊥

pub data RiverSays (job : Job) : Result (RiverLine × RiverLine) JobRefusal → Type 0 where
  out_of_range : (RiverRanged job → ⊥) → RiverSays job (Err refusal.OutOfRange)
  large : RiverRanged job → LargeCatchment job → RiverSays job (Err refusal.LargeCatchment)
  intense : RiverRanged job → TooIntense job → RiverSays job (Err refusal.TooIntense)
  obstructed : RiverRanged job → ScourAllowed job → OverObstructed job → RiverSays job (Err refusal.OverObstructed)
  shown : {d c : RiverLine} → RiverRanged job → ScourAllowed job → (OverObstructed job → ⊥) → DepthIs job d → ClearIs job c → RiverSays job (Ok (d, c))
