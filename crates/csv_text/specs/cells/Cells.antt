-- The cells of a row by their places in the text.
use Rattle.std.specs.Prelude.{ℕ, zero, suc, ◌+◌, ◌≤◌, ◌<◌, min, ◌≡◌, List, [], ◌∷◌, length, get_or, drop}
use Rattle.csv_text.specs.rfc4180.Rfc4180.{Cell, File}
use Rattle.csv_text.specs.cells.Content.{no_cell}
use Rattle.csv_text.specs.Part.{part}
use Rattle.csv_text.specs.declared.cells.Place.{Place}
use Rattle.csv_text.specs.declared.cells.Cells.{Cells}

-- no place: what stands where a row has no field
abbrev pub no_place : Place
no_place = record { from = 0; to = 0 }

-- where the field k stands, the first being 0
abbrev pub place : Cells → ℕ → Place
place c k = get_or c.places k no_place

-- the field stands at p in the text: from a up to e
pub record Stretch (s : List ℕ) (p a e : ℕ) (f : Cell) : Type 0 where
  pub starts : a ≡ p
  pub ends : e ≡ p + length f.raw
  pub within : e ≤ length s
  pub is : part a e s ≡ f.raw

-- how far behind its row's start a field stands: behind each field before it, and its comma
unfoldable pub offset : List Cell → ℕ → ℕ
offset [] k = 0
offset (f ∷ fs) zero = 0
offset (f ∷ fs) (suc k) = length f.raw + 1 + offset fs k

-- what is left behind a row's CRLF: nothing, and no row; or a text with its rows
pub data Rest : List ℕ → List (List Cell) → Type 0 where
  nothing : Rest [] []
  more : {t : List ℕ} {rs : List (List Cell)} → (t ≡ [] → ⊥) → File t rs → Rest t rs

-- c is the answer for the row of these fields with these rows behind it: how many fields, where the first ten stand, with zeros where there
-- are fewer, and where the next row starts, or the text's end
pub record RowIs (s : List ℕ) (start : ℕ) (fs : List Cell) (rs : List (List Cell)) (c : Cells) : Type 0 where
  pub count : c.count ≡ length fs
  pub stretches : (k : ℕ) → k < 10 → k < length fs → Stretch s (start + offset fs k) (place c k).from (place c k).to (get_or fs k no_cell)
  pub unused : (k : ℕ) → length fs ≤ k → place c k ≡ no_place
  pub ten : length c.places ≡ 10
  pub behind : c.next ≡ min (length s) (start + offset fs (length fs) + 1)
  pub on : c.next < length s → start < c.next
  pub rest : Rest (drop c.next s) rs

abbrev pub RowAt : List ℕ → ℕ → Cells → Type 0
RowAt s start c = (fs : List Cell) (rs : List (List Cell)) → File (drop start s) (fs ∷ rs) → RowIs s start fs rs c

-- the cell k has a place in the text
pub record Stands (s : List ℕ) (c : Cells) (k : ℕ) : Type 0 where
  pub few : k < 10
  pub order : (place c k).from ≤ (place c k).to
  pub within : (place c k).to ≤ length s

-- the stretch of the cell k; where it has no place, nothing
pub record CellAt (s : List ℕ) (c : Cells) (k : ℕ) (r : List ℕ) : Type 0 where
  pub there : Stands s c k → r ≡ part (place c k).from (place c k).to s
  pub missing : (Stands s c k → ⊥) → r ≡ []
