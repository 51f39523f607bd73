-- Each row that the job has gives what it is told, and one that it has not gives no line; both together are what the river says.
use Rattle.std.proofs.Common.{◌≡◌, sym, subst, Bool, true}
use Rattle.arithmetic.specs.decides.Decides.{Decides}
use Rattle.arithmetic.proofs.Deciding.{decided, refuted, decides_flag}
use Rattle.scour.specs.declared.Waterway.{Waterway}
use Rattle.scour.specs.ScourRow.{scour_told}
use Rattle.clearance.specs.ClearanceRow.{clearance_told, ClearanceSays}
use Rattle.answer.specs.Columns.{base_of}
use Rattle.answer.specs.river.River.{OnRock}
use Rattle.answer.specs.river.steps.Says.{RiverSays}
use Rattle.answer.specs.river.steps.Rows.{DepthGiven}
use Rattle.answer.proofs.river.Telling.{DepthGives, ClearGives, no_depth, no_clear, depth_gives, clear_gives, both_give}
use Rattle.answer.proofs.river.river_of.Goals as goal
use Rattle.answer.proofs.river.river_of.Goals.{then-has_scour, else-has_scour, then-has_clearance, else-has_clearance}

pub returns : goal.returns
returns c =
    let a = c.args in
    let has = c.has_scour in
    let crosses = c.has_clearance in
    let rock : Decides a.rock (OnRock a.job) = subst (λ (b : Bool). Decides b ((base_of a.job.base).rock ≡ true)) (sym c.requires) (decides_flag (base_of a.job.base).rock) in
    let depth : DepthGives a.job c.if-has_scour.depth = elim c.if-has_scour.branch [
      | then-has_scour w ↦ subst (DepthGives a.job) (sym w.depth-is)
          (depth_gives a.job (decided has.result w.if-has_scour.true has.ensures) a.rock rock w.scour.ensures w.depth_of-depth.result
          (subst (λ (x : Waterway). DepthGiven a.rock x.depth (scour_told w.scour.result) w.depth_of-depth.result) c.from-waterway.ensures w.depth_of-depth.ensures))
      | else-has_scour w ↦ subst (DepthGives a.job) (sym w.depth-is) (no_depth a.job (refuted has.result w.if-has_scour.false has.ensures))
    ] in
    let clear : ClearGives a.job c.if-has_clearance.clear = elim c.if-has_clearance.branch [
      | then-has_clearance w ↦ subst (ClearGives a.job) (sym w.clear-is)
          (clear_gives a.job (decided crosses.result w.if-has_clearance.true crosses.ensures) w.clearance.result
          (subst (λ (x : Waterway). ClearanceSays a.job.clearance x.discharge (clearance_told w.clearance.result)) c.from-waterway.ensures w.clearance.ensures) w.clear_of-clear.result w.clear_of-clear.ensures)
      | else-has_clearance w ↦ subst (ClearGives a.job) (sym w.clear-is) (no_clear a.job (refuted crosses.result w.if-has_clearance.false crosses.ensures))
    ] in
    subst (RiverSays a.job) (sym c.both.ensures) (both_give a.job depth clear)
