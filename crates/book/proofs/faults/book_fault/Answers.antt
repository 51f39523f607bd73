-- A book that is too long is told so before its text is asked; a text that stops being RFC 4180 is told before its rows.
use Rattle.book.specs.faults.Faults.{too_long, text}
use Rattle.book.proofs.faults.book_fault.Goals as goal

pub returns-then-book-gt-LONGEST : goal.returns-then-book-gt-LONGEST
returns-then-book-gt-LONGEST c = too_long c.if-book-gt-LONGEST.true

pub returns-then-not-is_csv : goal.returns-then-not-is_csv
returns-then-not-is_csv c = text c.if-book-gt-LONGEST.false c.in-Some.ensures
