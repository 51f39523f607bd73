-- Document 01, the job book: the note "is handed on as the stretch of the book from its comma to its row's end, quotes included,
-- that comma and the row's CRLF not".
use Rattle.std.specs.Prelude.{ℕ, ◌≡◌, List, []}
use Rattle.csv_text.specs.Nth.{Nth}
use Rattle.rows.specs.Form.{BookRow}
use Rattle.book.specs.JobBook.{Jobs, JobBook}

-- the note of that row of a job book; nothing where the book is none, or has no such row
pub data NoteIs (s : List ℕ) (n : ℕ) (note : List ℕ) : Type 0 where
  there : {js : Jobs} {r : BookRow} (b : JobBook s js) → Nth b.typed n r → note ≡ r.note → NoteIs s n note
  no_row : {js : Jobs} (b : JobBook s js) → ((r : BookRow) → Nth b.typed n r → ⊥) → note ≡ [] → NoteIs s n note
  no_book : ((js : Jobs) → JobBook s js → ⊥) → note ≡ [] → NoteIs s n note
