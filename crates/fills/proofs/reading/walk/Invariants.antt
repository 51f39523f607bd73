-- The loop keeps `Walk`: the rows passed mean the fills that are held in words, and none is listed twice. Each row starts further on, so the loop ends.
use Rattle.std.proofs.Common.{length, ◌-◌}
use Rattle.fills.proofs.Walking.{Walk}
use Rattle.fills.proofs.reading.walk.Given as goal

abbrev pub invariant-rows : goal.invariant-rows
invariant-rows l = Walk l.whose l.s l.n l.at l.fills

abbrev pub decreases-rows : goal.decreases-rows
decreases-rows l = length l.s - l.at
