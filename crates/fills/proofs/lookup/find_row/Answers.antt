-- The row that is found is the one whose words are looked for.
use Rattle.fills.proofs.lookup.Finding.{found_there, row_found}
use Rattle.fills.proofs.lookup.find_row.Goals as goal

pub row_part-requires : goal.row_part-requires
row_part-requires c = found_there c.in_ok-read_rows.ensures c.fill_key-key.ensures c.if-soil-gt5.false c.if-slope-gt5.false c.in-Some.ensures

pub returns-in-Some : goal.returns-in-Some
returns-in-Some c =
    row_found c.in_ok-read_rows.ensures c.fill_key-key.ensures c.if-soil-gt5.false c.if-slope-gt5.false c.in-Some.ensures _ c.row_part.ensures
