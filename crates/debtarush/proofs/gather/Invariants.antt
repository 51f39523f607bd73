-- The members of the jobs passed stand in their places.
use Rattle.debtarush.proofs.Members.{Named}
use Rattle.debtarush.proofs.gather.Given as goal

abbrev pub invariant-loop-k : goal.invariant-loop-k
invariant-loop-k l = Named l.jobs l.members l.k
