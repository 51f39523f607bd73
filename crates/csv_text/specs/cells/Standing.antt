-- The cells of a row, so many, stand where these places say; each is a field. And the row itself, as it lies in the text.
use Rattle.std.specs.Prelude.{ℕ, ◌+◌, ◌<◌, ◌≡◌, List, [], ◌∷◌, ◌++◌, length, get_or}
use Rattle.csv_text.specs.rfc4180.Rfc4180.{COMMA, Cell, Field}
use Rattle.csv_text.specs.cells.Content.{no_cell, content}
use Rattle.csv_text.specs.cells.Cells.{Stretch}
use Rattle.csv_text.specs.cells.Cells as cells
use Rattle.csv_text.specs.declared.cells.Cells.{Cells}

-- a cell of a row by its place, the first being 0, as it lies in the text
abbrev pub raw : List Cell → ℕ → List ℕ
raw cs k = (get_or cs k no_cell).raw

pub record Standing (many : ℕ) (s : List ℕ) (c : Cells) (cs : List Cell) : Type 0 where
  pub so_many : length cs ≡ many
  pub place : ℕ → ℕ
  pub stands : (k : ℕ) → k < many → Stretch s (place k) (cells.place c k).from (cells.place c k).to (get_or cs k no_cell)
  pub field : (k : ℕ) → k < many → Field (raw cs k) (content cs k)

-- a row as it lies in the text, its CRLF left out
unfoldable pub row_text : List Cell → List ℕ
row_text [] = []
row_text (f ∷ []) = f.raw
row_text (f ∷ g ∷ fs) = f.raw ++ COMMA ∷ row_text (g ∷ fs)

-- where the row behind these rows starts: behind each of them and its CRLF
unfoldable pub row_start : List (List Cell) → ℕ
row_start [] = 0
row_start (cs ∷ css) = length (row_text cs) + 2 + row_start css
