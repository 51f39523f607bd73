-- Qf is at most 65,000,000, and each way out is one case of what is told.
use Rattle.std.proofs.Common.{arith}
use Rattle.arithmetic.proofs.Deciding.{decided, refuted}
use Rattle.scour.specs.Scour.{Constricted, LaceyDepth, regime, constricted, large_catchment, too_intense, needed}
use Rattle.scour.proofs.discharge.Bounds.{discharge_most}
use Rattle.scour.proofs.scour_of.Goals as goal
use Rattle.scour.proofs.scour_of.Goals.{then-meets_regime, else-meets_regime+else-intensity-gt-MOST_INTENSE}

pub returns-then-row-gt-LARGEST : goal.returns-then-row-gt-LARGEST
returns-then-row-gt-LARGEST c = large_catchment c.if-row-gt-LARGEST.true

pub regime_depth-requires : goal.regime_depth-requires
regime_depth-requires c = (discharge_most c.requires.0 c.foundation_discharge-qf.ensures, c.requires.1)

pub overflow_mul-qf : goal.overflow_mul-qf
overflow_mul-qf c = omega (arith, discharge_most c.requires.0 c.foundation_discharge-qf.ensures)

pub returns-then-intensity-gt-MOST_INTENSE : goal.returns-then-intensity-gt-MOST_INTENSE
returns-then-intensity-gt-MOST_INTENSE c =
    let narrow : Constricted c.args.row c.up-intensity.result.value =
    record {
      Qf = c.foundation_discharge-qf.result;
      flood = c.foundation_discharge-qf.ensures;
      narrow = refuted c.meets_regime.result c.if-meets_regime.false c.meets_regime.ensures;
      intensity = c.up-intensity.ensures.rounded;
    } in
    too_intense narrow c.if-intensity-gt-MOST_INTENSE.true

pub returns : goal.returns
returns c =
    let depth : LaceyDepth c.args.row c.if-meets_regime.depth =
    elim c.if-meets_regime.branch [
      | then-meets_regime w ↦ rw w.depth-is (regime c.foundation_discharge-qf.ensures (decided c.meets_regime.result w.if-meets_regime.true c.meets_regime.ensures) w.regime_depth.ensures.0)
      | else-meets_regime+else-intensity-gt-MOST_INTENSE w ↦
          rw w.depth-is
          (constricted
          (record {
            Qf = c.foundation_discharge-qf.result;
            flood = c.foundation_discharge-qf.ensures;
            narrow = refuted c.meets_regime.result w.if-meets_regime.false c.meets_regime.ensures;
            intensity = w.up-intensity.ensures.rounded;
          })
          (omega arith) w.constricted_depth.ensures.0)
    ] in
    needed depth c.depth_needed.ensures
