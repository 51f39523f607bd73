-- The note of a row: the forms of a job book give each of its rows the note that the text gives it. A row's number has one row, and so one note.
use Prim.Native.Nat.{ℕ, ◌+◌}
use native.Mathlib.Omega.{arith}
use mathlib.Core.Path.{refl, sym, ap, subst, ◌∙◌, ◌≡◌}
use mathlib.Core.List.{List, [], ◌∷◌, ◌++◌}
use lib.ListN.{length}
use Rattle.csv_text.specs.rfc4180.Rfc4180.{Cell}
use Rattle.csv_text.specs.notes.Notes.{NoteIn, cell, no_cell, NoteAt}
use Rattle.csv_text.specs.Nth.{Nth}
use Rattle.csv_text.proofs.notes.Answers.{nth_one}
use Rattle.rows.specs.Form.{BookRow, Form}
use Rattle.rows.proofs.Forms.{note_is}
use Rattle.book.specs.JobBook.{Jobs, Forms, form, JobBook}
use Rattle.book.specs.Notes.{NoteIs, there, no_row, no_book}
use Rattle.book.proofs.Answers.{reading_one}

pub note_one : {s : List ℕ} {n : ℕ} {a b : List ℕ} → NoteIs s n a → NoteIs s n b → a ≡ b
note_one {n = n} (there b r e) (there {r = q} c p f) =
    e ∙ ap (λ (x : BookRow). x.note) (nth_one r (subst (λ (l : List BookRow). Nth l n q) (reading_one c b) p)) ∙ sym f
note_one {n = n} (there {r = r} b p e) (no_row c m f) = absurd (m r (subst (λ (l : List BookRow). Nth l n r) (reading_one b c) p))
note_one (there b p e) (no_book m f) = absurd (m _ b)
note_one {n = n} (no_row b m e) (there {r = r} c p f) = absurd (m r (subst (λ (l : List BookRow). Nth l n r) (reading_one c b) p))
note_one (no_row b m e) (no_row c k f) = e ∙ sym f
note_one (no_row b m e) (no_book k f) = absurd (k _ b)
note_one (no_book m e) (there c p f) = absurd (m _ c)
note_one (no_book m e) (no_row c k f) = absurd (m _ c)
note_one (no_book m e) (no_book k f) = e ∙ sym f

-- the rows of a text and their forms stand side by side
record Formed (rs : List BookRow) (n : ℕ) (cs : List Cell) : Type 0 where
  row : BookRow
  at : Nth rs n row
  is : Form cs row

record CellsIn (css : List (List Cell)) (n : ℕ) : Type 0 where
  cells : List Cell
  at : Nth css n cells

form_at : {rs : List BookRow} (before : List (List Cell)) (cs : List Cell) (behind : List (List Cell)) → Forms (before ++ cs ∷ behind) rs → Formed rs (length before + 1) cs
form_at [] cs behind (form {r = r} {rs = rs} f fs) = record { row = r; at = record { before = []; behind = rs; are = refl; number = refl }; is = f }
form_at (x ∷ before) cs behind (form {r = r} f fs) =
    let w = form_at before cs behind fs in
    let k = w.at.number in
    record { row = w.row; at = record { before = r ∷ w.at.before; behind = w.at.behind; are = ap (λ (l : List BookRow). r ∷ l) w.at.are; number = omega arith }; is = w.is }

cells_at : {css : List (List Cell)} (before : List BookRow) (r : BookRow) (behind : List BookRow) → Forms css (before ++ r ∷ behind) → CellsIn css (length before + 1)
cells_at [] r behind (form {cs = cs} {css = css} f fs) = record { cells = cs; at = record { before = []; behind = css; are = refl; number = refl } }
cells_at (x ∷ before) r behind (form {cs = cs} f fs) =
    let w = cells_at before r behind fs in
    let k = w.at.number in
    record { cells = w.cells; at = record { before = cs ∷ w.at.before; behind = w.at.behind; are = ap (λ (l : List (List Cell)). cs ∷ l) w.at.are; number = omega arith } }

-- what the text says of a note, a job book says
pub book_note : {s : List ℕ} {js : Jobs} {n : ℕ} {note : List ℕ} → JobBook s js → NoteAt s n note → NoteIs s n note
book_note {s = s} {n = n} {note} b h = by (h b.rows b.text)
  where
    by : NoteIn b.rows n note → NoteIs s n note
    by (cell {cs} r e) =
        let f = form_at r.before cs r.behind (subst (λ (l : List (List Cell)). Forms l b.typed) r.are b.forms) in
        there b (subst (λ (k : ℕ). Nth b.typed k f.row) (sym r.number) f.at) (e ∙ sym (note_is f.is))
    by (no_cell m e) =
        no_row b
        (λ r q.
        let w = cells_at q.before r q.behind (subst (λ (l : List BookRow). Forms b.rows l) q.are b.forms) in
        m w.cells (subst (λ (k : ℕ). Nth b.rows k w.cells) (sym q.number) w.at)) e
