-- Each of the rows passed names an LL row among all of them, or none.
use Rattle.std.proofs.Common.{ℕ, ◌<◌}
use Rattle.kinds.specs.Table.{train}
use Rattle.loads.specs.LoadRows.{NamesLive}
use Rattle.loads.proofs.FirstRows.{load_row}
use Rattle.loads.proofs.all_named.Given as goal

abbrev pub invariant-loop-row : goal.invariant-loop-row
invariant-loop-row l = (j : ℕ) → j < l.row-index → NamesLive l.rows (train (load_row l.rows j).kind (load_row l.rows j).numbers)
