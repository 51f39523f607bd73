-- What the loop passed may stand between quotes.
use Rattle.std.proofs.Common.{length, ◌-◌, ◌≤◌}
use Rattle.csv_text.proofs.quoted.Scan.{Escape}
use Rattle.csv_text.proofs.quoted.closing.Given as goal

abbrev pub invariant-loop-i : goal.invariant-loop-i
invariant-loop-i l = record { from : l.at ≤ l.i; within : l.i ≤ length l.s; so_far : Escape l.s l.at l.i }

abbrev pub decreases-loop-i : goal.decreases-loop-i
decreases-loop-i l = length l.s - l.i
