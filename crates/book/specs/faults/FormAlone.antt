-- Where a refusal lies: what `form_fault` answers, the form alone of a row of a book.
use Rattle.std.specs.Prelude.{ℕ, Option, None, ◌≡◌, List}
use Rattle.csv_text.specs.Nth.{Nth}
use Rattle.csv_text.specs.rfc4180.Rfc4180.{Cell, File, Readable}
use Rattle.rows.specs.faults.Faults.{RowSays}
use Rattle.rows.specs.declared.faults.RowFault.{RowFault}

-- the form alone of row n: why it has none; nothing where there is no such row, or the text is not RFC 4180
pub data FormLies (s : List ℕ) (n : ℕ) (f : Option RowFault) : Type 0 where
  of_row : {css : List (List Cell)} {cs : List Cell} → File s css → Nth css n cs → RowSays cs f → FormLies s n f
  no_row : {css : List (List Cell)} → File s css → ((cs : List Cell) → Nth css n cs → ⊥) → f ≡ None → FormLies s n f
  no_text : (Readable s → ⊥) → f ≡ None → FormLies s n f
