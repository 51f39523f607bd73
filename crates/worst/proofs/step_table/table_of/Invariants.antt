-- The table of the rows passed.
use Rattle.worst.proofs.step_table.Filling.{Filled}
use Rattle.worst.proofs.step_table.table_of.Given as goal

abbrev pub invariant-loop-i : goal.invariant-loop-i
invariant-loop-i l = Filled l.combination l.width l.fn.loads l.trains l.i l.steps l.choosable l.fixed
