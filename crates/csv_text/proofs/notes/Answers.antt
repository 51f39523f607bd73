-- A row's number has one row, and so a text's row one note.
use Prim.Native.Nat.{ℕ}
use native.Mathlib.Omega.{arith}
use mathlib.Core.Path.{◌≡◌, sym, ap, ◌∙◌}
use mathlib.Core.List.{List}
use lib.ListN.{get_or}
use Rattle.csv_text.proofs.Lists.{level}
use Rattle.csv_text.specs.rfc4180.Rfc4180.{Cell, Readable}
use Rattle.csv_text.specs.cells.Content as cells
use Rattle.csv_text.specs.notes.Notes.{NoteIn, cell, no_cell, NoteAt}
use Rattle.csv_text.specs.Nth.{Nth}

pub nth_one : {A : Type 0} {rs : List A} {n : ℕ} {x y : A} → Nth rs n x → Nth rs n y → x ≡ y
nth_one {x = x} {y} p q =
    let a = p.number in
    let b = q.number in
    (level p.before q.before p.behind q.behind x y (sym p.are ∙ q.are) (omega arith)).1

note_in_one : {rows : List (List Cell)} {n : ℕ} {a b : List ℕ} → NoteIn rows n a → NoteIn rows n b → a ≡ b
note_in_one (cell r p) (cell q f) = p ∙ ap (λ (cs : List Cell). (get_or cs 9 cells.no_cell).raw) (nth_one r q) ∙ sym f
note_in_one (cell {cs} r p) (no_cell m f) = absurd (m cs r)
note_in_one (no_cell m p) (cell {cs} r f) = absurd (m cs r)
note_in_one (no_cell m p) (no_cell k f) = p ∙ sym f

pub note_at_one : {s : List ℕ} {n : ℕ} {a b : List ℕ} → Readable s → NoteAt s n a → NoteAt s n b → a ≡ b
note_at_one q a b = note_in_one (a q.rows q.reading) (b q.rows q.reading)
