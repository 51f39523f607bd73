-- Each leading row that is passed doubles the ways.
use Rattle.std.proofs.Common.{◌≡◌, ◌^◌}
use Rattle.worst.specs.steps.Stance.{leading, choosable}
use Rattle.worst.proofs.trains.ways_of.Given as goal

abbrev pub invariant-loop-i : goal.invariant-loop-i
invariant-loop-i l = l.ways ≡ 2 ^ choosable (leading l.leaders) l.i
