-- A text that is RFC 4180 has a first row, and another row has a place before its end, or is not there.
use Rattle.std.proofs.Common.{refl}
use Rattle.csv_text.proofs.places.Starts.{started}
use Rattle.book.proofs.faults.Forming.{form_first, form_there, form_missing}
use Rattle.book.proofs.faults.form_fault.Goals as goal

pub returns-then-row-eq1 : goal.returns-then-row-eq1
returns-then-row-eq1 c = form_first c.if-not-is_csv.ensures c.if-row-eq1.true c.fault_at.ensures

pub returns-then-book-start : goal.returns-then-book-start
returns-then-book-start c = form_missing c.if-not-is_csv.ensures c.if-row-eq1.false c.start_of-start.ensures c.if-book-start.true refl

pub fault_at-requires-2-clause-readable : goal.fault_at-requires-2-clause-readable
fault_at-requires-2-clause-readable c = record { rows = _; reading = (started c.start_of-start.ensures c.if-book-start.false).here.file }

pub returns : goal.returns
returns c = form_there (started c.start_of-start.ensures c.if-book-start.false) c.fault_at-2.ensures
