-- The next row starts at one place, whether the row has a form or not.
use Rattle.rows.proofs.Reading.{row_seen}
use Rattle.rows.proofs.read_row.Goals as goal

pub returns : goal.returns
returns c = λ cs css q. row_seen c.cells_at-cells.ensures cs css q c.row_of.result c.row_of.ensures
