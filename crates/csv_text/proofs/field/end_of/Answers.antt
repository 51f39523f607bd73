-- A quoted field ends behind the quote that closes it, a plain one with the longest plain stretch. A quote that nothing closes begins no field.
use Rattle.arithmetic.proofs.Deciding.{decided, refuted}
use Rattle.csv_text.proofs.field.Ends.{plain_ends, quoted_ends, unclosed}
use Rattle.csv_text.proofs.field.end_of.Goals as goal

pub returns-in_err-closing : goal.returns-in_err-closing
returns-in_err-closing c =
    rw c.from_residual.ensures (unclosed c.args.s.now c.args.at (decided _ c.if-byte_is.true c.byte_is.ensures) c.in_err-closing.ensures)

pub returns-then-byte_is : goal.returns-then-byte_is
returns-then-byte_is c = quoted_ends c.args.s.now c.args.at (decided _ c.if-byte_is.true c.byte_is.ensures) _ c.in_ok-closing.ensures

pub returns : goal.returns
returns c = plain_ends c.args.s.now c.args.at (refuted _ c.if-byte_is.false c.byte_is.ensures) _ c.plain_end.ensures
