-- The lines of the jobs passed stand at the start of the buffer, with at most 2,048 bytes for each job, so that there is room for one job more.
use Rattle.debtarush.proofs.InOrder.{SoFar}
use Rattle.debtarush.proofs.book_lines.Given as goal

abbrev pub invariant-loop-i : goal.invariant-loop-i
invariant-loop-i l = SoFar l.own l.common l.read.jobs l.i l.fn.out l.out l.end
