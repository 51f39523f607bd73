-- Set 0 comes last; of the others the ones of the number are its rows.
use Rattle.std.proofs.Common.{sym, ◌∙◌, ap, arith}
use Rattle.weighing.specs.steps.Ranked.{order_of_ties}
use Rattle.weighing.proofs.ranked.Weights.{tie_order_none, tie_order_some}
use Rattle.weighing.proofs.ranked.tie_order.Goals as goal

pub returns-then-set-eq0 : goal.returns-then-set-eq0
returns-then-set-eq0 c = sym (ap order_of_ties c.if-set-eq0.true ∙ tie_order_none)

pub returns : goal.returns
returns c = omega (arith, tie_order_some c.args.set (omega (arith, c.if-set-eq0.false)), c.from-rows.ensures)
