-- The note of a row: the rows of a text are passed up to the one sought, or to the last.
use Prim.Native.Nat.{ℕ, ◌+◌, ◌≤◌, ◌<◌}
use native.Mathlib.Omega.{arith}
use mathlib.Core.Path.{◌≡◌, refl, sym, subst, ◌∙◌}
use mathlib.Core.List.{List, []}
use lib.Dec.{lit<}
use lib.ListN.{length}
use Rattle.csv_text.specs.rfc4180.Rfc4180.{Cell, Readable}
use Rattle.csv_text.proofs.cells.Standing.{cell_raw}
use Rattle.csv_text.proofs.rfc4180.Unique.{file_unique}
use Rattle.csv_text.specs.cells.Cells as cells
use Rattle.csv_text.specs.declared.cells.Cells.{Cells}
use Rattle.csv_text.specs.notes.Notes.{NoteIn, cell, no_cell, NoteAt}
use Rattle.csv_text.proofs.notes.Reached.{RowReached, reached_start, reached_more, none_left}

-- row n is reached, and the row sought is none of those passed
pub record Passing (s : List ℕ) (row n at : ℕ) : Type 0 where
  pub passed : List (List Cell)
  pub reached : RowReached s passed n at
  pub ahead : 1 ≤ row → n ≤ row

pub passing_start : {s : List ℕ} (row : ℕ) → Readable s → Passing s row 1 0
passing_start row q = record { passed = []; reached = reached_start q; ahead = λ h. h }

module _ {s : List ℕ} {row n at : ℕ} {c : Cells} (i : Passing s row n at) (h : cells.RowAt s at c) where
  abbrev cs : List Cell
  cs = i.reached.row

  is : cells.RowIs s at cs i.reached.behind c
  is = h _ _ i.reached.here

  pub passing_on : c.next < length s → at < c.next
  passing_on k = is.on k

  pub passing_found : {note : List ℕ} → n ≡ row → cells.CellAt s c 9 note → NoteAt s row note
  passing_found {note} e a rows q =
      let r = i.reached in
      subst (λ (l : List (List Cell)). NoteIn l row note) (file_unique r.reading q refl)
      (cell (record { before = i.passed; behind = r.behind; are = r.are; number = sym e ∙ r.number }) (cell_raw is 9 (lit< tt) a))

  pub passing_end : {note : List ℕ} → (n ≡ row → ⊥) → length s ≤ c.next → note ≡ [] → NoteAt s row note
  passing_end {note} e k z rows q = no_cell (λ fs r. none_left i.reached is.rest k i.ahead e q r) z

  pub passing_more : (n ≡ row → ⊥) → c.next < length s → Passing s row (n + 1) c.next
  passing_more e k = record { passed = _; reached = reached_more i.reached is.rest (passing_on k) k; ahead = λ x. let a = i.ahead x in omega (arith, e) }
