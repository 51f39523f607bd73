-- Document 01, the job book: the note "is handed on as the stretch of the book from its comma to its row's end, quotes included,
-- that comma and the row's CRLF not".
use Rattle.std.specs.Prelude.{ℕ, ◌≡◌, List, [], get_or}
use Rattle.csv_text.specs.rfc4180.Rfc4180.{Cell, File}
use Rattle.csv_text.specs.cells.Content as cells
use Rattle.csv_text.specs.Nth.{Nth}

-- the note of a row of a text: its tenth cell; nothing where it has none, and where there is no such row
pub data NoteIn (rows : List (List Cell)) (n : ℕ) (note : List ℕ) : Type 0 where
  cell : {cs : List Cell} → Nth rows n cs → note ≡ (get_or cs 9 cells.no_cell).raw → NoteIn rows n note
  no_cell : ((cs : List Cell) → Nth rows n cs → ⊥) → note ≡ [] → NoteIn rows n note

abbrev pub NoteAt : List ℕ → ℕ → List ℕ → Type 0
NoteAt s n note = (rows : List (List Cell)) → File s rows → NoteIn rows n note
