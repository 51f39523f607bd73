-- What `read_row` answers for the row that starts at a place.
use Rattle.std.specs.Prelude.{ℕ, ◌+◌, ◌<◌, min, ◌≡◌, Option, Some, None, List, ◌∷◌, length, get_or, drop}
use Rattle.csv_text.specs.rfc4180.Rfc4180.{Cell, File}
use Rattle.csv_text.specs.cells.Cells.{offset, Rest}
use Rattle.csv_text.specs.cells.Content.{no_cell}
use Rattle.csv_text.specs.cells.Standing.{raw}
use Rattle.rows.specs.Form.{BookRow, Ten, Form}
use Rattle.rows.specs.declared.keys.Keyed.{Keyed}
use Rattle.rows.specs.declared.RowRead.{RowRead}

-- the first ten cells of a row
abbrev pub first_ten : List Cell → Ten
first_ten cs = record {
  member = get_or cs 0 no_cell;
  job = get_or cs 1 no_cell;
  kind = get_or cs 2 no_cell;
  n1 = get_or cs 3 no_cell;
  n2 = get_or cs 4 no_cell;
  n3 = get_or cs 5 no_cell;
  n4 = get_or cs 6 no_cell;
  n5 = get_or cs 7 no_cell;
  n6 = get_or cs 8 no_cell;
  note = get_or cs 9 no_cell;
}

-- the row that the cells mean; or that they mean none
abbrev pub RowGiven : List Cell → Option Keyed → Type 0
RowGiven cs (Some k) = Form cs (record { keyed = k; note = raw cs 9 })
RowGiven cs None = (r : BookRow) → Form cs r → ⊥

-- of the row that starts at a place: what it means, and where the next one starts
pub record RowSeen (s : List ℕ) (start : ℕ) (cs : List Cell) (css : List (List Cell)) (r : RowRead) : Type 0 where
  pub means : RowGiven cs r.row
  pub behind : r.next ≡ min (length s) (start + offset cs (length cs) + 1)
  pub on : r.next < length s → start < r.next
  pub rest : Rest (drop r.next s) css

abbrev pub SeenAt : List ℕ → ℕ → RowRead → Type 0
SeenAt s start r = (cs : List Cell) (css : List (List Cell)) → File (drop start s) (cs ∷ css) → RowSeen s start cs css r
