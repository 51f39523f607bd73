-- Behind the row that is taken stand the others, or nothing.
use Rattle.csv_text.proofs.cells.Left.{left_behind}
use Rattle.records_run.proofs.run_all.Goals as goal

pub loop-at-preserved : goal.loop-at-preserved
loop-at-preserved g c = left_behind c.loop-at-test.true c.loop-at.invariant c.cells_at-cells.ensures
