-- The rows passed are rows that a job book may begin with, and the values held are those of their jobs.
use Rattle.std.proofs.Common.{length, ◌-◌}
use Rattle.book.proofs.Walking.{Walk}
use Rattle.book.proofs.walk.walk_rows.Given as goal

abbrev pub invariant-loop-took : goal.invariant-loop-took
invariant-loop-took l = Walk l.s l.job l.jobs l.keys l.count l.row l.at

abbrev pub decreases-loop-took : goal.decreases-loop-took
decreases-loop-took l = length l.s - l.at
