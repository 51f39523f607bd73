-- A book is refused by its length, and by its form before its rows; one of no bytes has no rows.
use Rattle.std.proofs.Common.{rules}
use Rattle.fills.specs.faults.Faults.{too_long}
use Rattle.fills.proofs.Walking.{text_refused, empty_book}
use Rattle.fills.proofs.reading.read_rows.Goals as goal

pub returns-then-s-gt65536 : goal.returns-then-s-gt65536
returns-then-s-gt65536 c = too_long c.if-s-gt65536.true

pub returns-then-is_empty : goal.returns-then-is_empty
returns-then-is_empty c = empty_book _ (search rules) c.clear.ensures

pub returns-then-not-is_csv : goal.returns-then-not-is_csv
returns-then-not-is_csv c = text_refused c.if-s-gt65536.false c.in-Some.ensures
