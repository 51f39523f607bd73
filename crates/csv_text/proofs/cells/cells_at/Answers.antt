-- Each field takes a byte at least, with its comma, so their number fits and the loop ends. The text is readable, so a bad field cannot come.
use Rattle.std.proofs.Common.{arith, refl}
use Rattle.csv_text.proofs.Steps.{step_bad}
use Rattle.csv_text.proofs.cells.Noted.{seen_none, inv_comma, inv_row, inv_end}
use Rattle.csv_text.proofs.cells.cells_at.Goals as goal

pub loop-to-init : goal.loop-to-init
loop-to-init c =
    record { started = omega arith; within = omega arith; few = omega arith; ten = refl; readable = c.requires.readable; passed = λ fs rs k. seen_none _ _ fs rs k }

pub loop-to-preserved : goal.loop-to-preserved
loop-to-preserved c = inv_comma c.loop-to.invariant c.in-Some-Comma.to c.note_place.ensures (rw c.in-Some-Comma.field-0-is at c.in-Some-Comma.ensures)

pub returns-in-Some-Row : goal.returns-in-Some-Row
returns-in-Some-Row c = inv_row c.loop-to.invariant c.in-Some-Row.to _ c.closed.ensures (rw c.in-Some-Row.field-0-is at c.in-Some-Row.ensures)

pub returns-in-Some-End : goal.returns-in-Some-End
returns-in-Some-End c = inv_end c.loop-to.invariant _ c.closed-in-Some-End.ensures (rw c.in-Some-End.field-0-is at c.in-Some-End.ensures)

pub unreachable-requires : goal.unreachable-requires
unreachable-requires c = step_bad c.args.s.now c.loop-to.at c.in-None.ensures c.loop-to.invariant.readable
