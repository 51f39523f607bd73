-- Of the leading rows passed those are there that the bits of the way say.
use Rattle.worst.proofs.trains.Present.{Told}
use Rattle.worst.proofs.trains.present_in.Given as goal

abbrev pub invariant-loop-i : goal.invariant-loop-i
invariant-loop-i l = Told l.leaders l.way l.i l.present l.rest
