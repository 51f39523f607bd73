-- Where the row starts is told, or that there is none; the empty text has a row all the same, whose one field is empty.
use Rattle.std.proofs.Common.{arith, refl}
use Rattle.csv_text.proofs.places.Picking.{field_found, field_past}
use Rattle.csv_text.proofs.places.Starts.{start_left}
use Rattle.csv_text.proofs.places.cell_of.Goals as goal

pub returns-then-s-start : goal.returns-then-s-start
returns-then-s-start c =
    let some = c.if-column-eq0.false in
    field_past c.start_of-start.ensures c.if-s-start.true (omega (arith, some)) refl

pub cells_at-passed-requires-clause-readable : goal.cells_at-passed-requires-clause-readable
cells_at-passed-requires-clause-readable c = (start_left c.start_of-start.ensures c.if-s-start.false).readable

pub returns : goal.returns
returns c =
    let some = c.if-column-eq0.false in
    field_found c.start_of-start.ensures c.if-s-start.false c.cells_at-passed.ensures (omega (arith, some)) c.cell.ensures
