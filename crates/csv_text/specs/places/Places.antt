-- Where a refusal lies: rows, fields and lines of a text by number, as a person counts them, the first being 1.
use Rattle.std.specs.Prelude.{ℕ, ◌+◌, ◌≤◌, ◌≡◌, cond, List, [], ◌∷◌, eqb, length}
use Rattle.csv_text.specs.rfc4180.Rfc4180.{LF, Cell, File}
use Rattle.csv_text.specs.cells.Standing.{row_start}
use Rattle.csv_text.specs.Nth.{Nth}

-- where row n of a text starts: behind the rows before it; where there is no such row, as where the text is not RFC 4180, at the text's end
pub data StartsAt (s : List ℕ) (n r : ℕ) : Type 0 where
  at_row : {rows : List (List Cell)} {cs : List Cell} → File s rows → (at : Nth rows n cs) → r ≡ row_start at.before → StartsAt s n r
  no_row : ((rows : List (List Cell)) (cs : List Cell) → File s rows → Nth rows n cs → ⊥) → r ≡ length s → StartsAt s n r

-- field k of row n of a text, as the stretch of the text that it is, k being 10 at most; where there is no such field, nothing
pub data FieldIs (s : List ℕ) (n k : ℕ) (r : List ℕ) : Type 0 where
  field : {rows : List (List Cell)} {cs : List Cell} {f : Cell} → File s rows → Nth rows n cs → Nth cs k f → k ≤ 10 → r ≡ f.raw → FieldIs s n k r
  no_field : ((rows : List (List Cell)) (cs : List Cell) (f : Cell) → File s rows → Nth rows n cs → Nth cs k f → k ≤ 10 → ⊥) → r ≡ [] → FieldIs s n k r

-- how many lines of a text are ended: its LF bytes
unfoldable pub breaks : List ℕ → ℕ
breaks [] = 0
breaks (b ∷ s) = cond (eqb b LF) 1 0 + breaks s
