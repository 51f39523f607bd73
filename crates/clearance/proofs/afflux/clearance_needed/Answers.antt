-- Each way out is one case of the rule.
use Rattle.std.proofs.Common.{refl, arith}
use Rattle.clearance.specs.afflux.Rules.{to_30000, to_300000, to_3000000, above}
use Rattle.clearance.proofs.afflux.clearance_needed.Goals as goal

pub returns-then-q-le-FIRST_TO : goal.returns-then-q-le-FIRST_TO
returns-then-q-le-FIRST_TO c = to_30000 (omega arith)

pub overflow_add-result : goal.overflow_add-result
overflow_add-result c = omega (arith, c.up.ensures.rounded.least 600 (omega arith))

pub returns-then-q-le-SECOND_TO : goal.returns-then-q-le-SECOND_TO
returns-then-q-le-SECOND_TO c = to_300000 (omega arith) (omega arith) c.up.ensures.rounded refl

pub returns-then-q-le-THIRD_TO : goal.returns-then-q-le-THIRD_TO
returns-then-q-le-THIRD_TO c = to_3000000 (omega arith) (omega arith)

pub returns : goal.returns
returns c = above (omega arith)
