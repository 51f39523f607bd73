-- A lower rank weighs less, and of equal ranks the set that comes first.
use Rattle.std.proofs.Common.{◌≤◌, ◌<◌, sym, arith}
use native.Mathlib.Nat.{le_of_lt}
use Rattle.weighing.specs.steps.Ranked.{weight_of, order_of_ties}
use Rattle.weighing.proofs.ranked.Weights.{weight_rank, weight_tie_order, worse_of_new, worse_of_old}
use Rattle.weighing.proofs.ranked.worse.Goals.{else-rank-worst-2-via-then-rank-worst-2+else-tie_order, else-rank-worst-2-via-else-rank-worst-2}
use Rattle.weighing.proofs.ranked.worse.Goals as goal

pub returns-then-rank-worst : goal.returns-then-rank-worst
unfolding weight_of
returns-then-rank-worst c = worse_of_new _ _ _ (weight_rank _ _ _ _ c.if-rank-worst.true c.requires.1 c.requires.2)

-- of equal ranks
pub returns-then-tie_order : goal.returns-then-tie_order
unfolding weight_of
returns-then-tie_order c =
    let a = c.args in
    let first : order_of_ties a.set < order_of_ties a.worst.set = omega (arith, c.tie_order.ensures, c.tie_order-then-rank-worst-2.ensures, c.if-tie_order.true) in
    worse_of_new _ _ _ (weight_tie_order _ _ _ _ c.if-rank-worst-2.true (le_of_lt first))

pub returns : goal.returns
unfolding weight_of
returns c =
    let a = c.args in
    elim c.else-rank-worst-2.branch [
      | else-rank-worst-2-via-then-rank-worst-2+else-tie_order w ↦
          let later : order_of_ties a.worst.set ≤ order_of_ties a.set = omega (arith, w.tie_order.ensures, w.tie_order-then-rank-worst-2.ensures, w.if-tie_order.false) in
          worse_of_old _ _ _ (weight_tie_order _ _ _ _ (sym w.if-rank-worst-2.true) later)
      | else-rank-worst-2-via-else-rank-worst-2 w ↦ worse_of_old _ _ _ (weight_rank _ _ _ _ (omega (arith, w.if-rank-worst-2.false, c.if-rank-worst.false)) c.requires.2 c.requires.1)
    ]
