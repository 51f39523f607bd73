-- The jobs of the book stand in the first of the places, so those passed in the end are all it has.
use native.Mathlib.Omega.{arith}
use Rattle.debtarush.proofs.Locating.{held, refusal, within}
use Rattle.debtarush.proofs.InOrder.{so_far_none, so_far_more, printed_jobs, printed_refusal, printed_no_fills, fills_at}
use Rattle.debtarush.proofs.book_lines.Goals as goal

pub returns-in-Err-clause-book_printed : goal.returns-in-Err-clause-book_printed
returns-in-Err-clause-book_printed c =
    printed_refusal (refusal c.in-Err.ensures) c.number_of.ensures c.book_line-line.ensures.value c.book_line-line.ensures.whole c.append.ensures (omega arith)

pub returns-then-not-gather-clause-book_printed : goal.returns-then-not-gather-clause-book_printed
returns-then-not-gather-clause-book_printed c =
    printed_no_fills (held c.in-Ok.ensures).book c.if-not-gather.ensures c.book_line.ensures.value c.book_line.ensures.whole
    c.append-then-not-gather.ensures (omega arith)

pub loop-i-init : goal.loop-i-init
loop-i-init c = so_far_none _ _

pub loop-i-preserved : goal.loop-i-preserved
loop-i-preserved c =
    let h = held c.in-Ok.ensures in
    so_far_more _ (within h (omega arith)) c.loop-i.invariant (omega (arith, h.few))
    (fills_at c.if-not-gather.ensures _ _ _ (omega arith) h.few (within h (omega arith))) c.lines_of.ensures c.append-end.ensures

pub returns-clause-book_printed : goal.returns-clause-book_printed
returns-clause-book_printed c =
    printed_jobs (held c.in-Ok.ensures) c.if-not-gather.ensures.accepted (omega arith) (omega arith) c.loop-i.invariant
