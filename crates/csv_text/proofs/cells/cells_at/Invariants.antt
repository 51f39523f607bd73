-- The loop keeps where the fields passed stand, and that the text from here on is readable.
use Rattle.std.proofs.Common.{length, ◌-◌}
use Rattle.csv_text.proofs.cells.Noted.{RowInv}
use Rattle.csv_text.proofs.cells.cells_at.Given as goal

abbrev pub invariant-loop-to : goal.invariant-loop-to
invariant-loop-to l = RowInv l.s l.start l.n l.at l.places

abbrev pub decreases-loop-to : goal.decreases-loop-to
decreases-loop-to l = length l.s - l.at
