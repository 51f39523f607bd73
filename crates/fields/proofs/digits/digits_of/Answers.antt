-- At most eight digits stand before the next one, so the worth is below 10⁸ and ten times as much still fits; a byte that is no digit leaves no
-- numeral at all.
use Rattle.std.proofs.Common.{arith}
use Rattle.fields.proofs.digits.Numerals.{room, digits_stop, digits_more}
use Rattle.fields.proofs.digits.digits_of.Goals as goal

pub returns-then-b-i : goal.returns-then-b-i
returns-then-b-i c = λ n d. digits_stop _ _ _ c.loop-i-test.true c.loop-i.invariant.read c.if-b-i.true n d.numeral

pub overflow_mul-worth : goal.overflow_mul-worth
overflow_mul-worth c = let low = room _ _ _ c.loop-i-test.true c.loop-i.invariant.few c.loop-i.invariant.read in omega arith

pub overflow_add-worth : goal.overflow_add-worth
overflow_add-worth c =
    let low = room _ _ _ c.loop-i-test.true c.loop-i.invariant.few c.loop-i.invariant.read in
    let fits = c.type_inv.content c.loop-i.i in
    omega arith

pub loop-i-preserved : goal.loop-i-preserved
loop-i-preserved c = record { some = c.loop-i.invariant.some; few = c.loop-i.invariant.few; read = rw c.from.ensures (digits_more c.args.content.now c.loop-i.i c.loop-i.worth c.loop-i-test.true c.if-b-i.false c.loop-i.invariant.read) }
