-- A book that is given is a job book, and its rows have the notes that its text gives them; a refused one is no job book, so nothing is due.
use Rattle.std.proofs.Common.{refl}
use Rattle.book.specs.Notes.{no_book}
use Rattle.book.proofs.Answers.{read_exactly, refused_none}
use Rattle.book.proofs.Noting.{book_note}
use Rattle.book.proofs.note_of.Goals as goal

pub returns-in-Ok : goal.returns-in-Ok
returns-in-Ok c = book_note (read_exactly.0 c.in-Ok.ensures.says).book c.note_at.ensures

pub returns-in-Err : goal.returns-in-Err
returns-in-Err c = no_book (refused_none c.in-Err.ensures.says) refl
