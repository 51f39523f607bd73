-- A cell has the form of a column exactly if it was read to hold an entry by it.
use Rattle.rows.proofs.faults.Columns.{cell_held}
use Rattle.rows.proofs.faults.has_form.Goals as goal

pub returns : goal.returns
returns c = λ cs t few. rw c.is_some.ensures (cell_held t c.args.k _ few c.cell.ensures c.args.column c.entry_at.result c.entry_at.ensures)
