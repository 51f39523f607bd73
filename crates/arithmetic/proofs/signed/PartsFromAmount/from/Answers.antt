-- With a minus all of the size is below zero and nothing above it; without one it is the other way round.
use Rattle.arithmetic.specs.signed.Parts.{parts_in}
use Rattle.arithmetic.proofs.signed.Laws.{above_minus, above_plain, below_minus, below_plain, same_parts}
use mathlib.Core.Path.{sym}
use Rattle.arithmetic.proofs.signed.PartsFromAmount.from.Goals as goal

pub returns-then-a : goal.returns-then-a
unfolding parts_in
returns-then-a c = same_parts (sym (above_minus _ c.if-a.true)) (sym (below_minus _ c.if-a.true))

pub returns : goal.returns
unfolding parts_in
returns c = same_parts (sym (above_plain _ c.if-a.false)) (sym (below_plain _ c.if-a.false))
