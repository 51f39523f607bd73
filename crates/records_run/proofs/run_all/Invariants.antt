-- What is left of the list is RFC 4180: its first row is taken, and behind that row stand the others, or nothing.
use Rattle.std.proofs.Common.{length, ◌-◌}
use Rattle.csv_text.proofs.cells.Left.{Left}
use Rattle.records_run.proofs.run_all.Given as goal

abbrev pub invariant-loop-at : goal.invariant-loop-at
invariant-loop-at g l = Left l.s l.at

abbrev pub decreases-loop-at : goal.decreases-loop-at
decreases-loop-at g l = length l.s - l.at
