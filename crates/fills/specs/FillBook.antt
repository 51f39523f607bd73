-- Document 02, P4: what a fill book is. "A second RFC 4180 book of rows, at most 65,536 bytes .. one of no bytes has no rows"; no row "without
-- five fields or with one outside its form or range", and none that "lists a soil and slope twice for one member".
use Rattle.std.specs.Prelude.{ℕ, ◌≤◌, ◌<◌, ◌≡◌, List, [], ◌∷◌, length, get_or}
use Rattle.csv_text.specs.rfc4180.Rfc4180.{Cell, File}
use Rattle.fields.specs.names.Names.{no_name}
use Rattle.fields.specs.declared.names.Name.{Name}
use Rattle.fills.specs.declared.fill_rows.Fill.{Fill}
use Rattle.fills.specs.declared.fill_rows.Whose.{Whose}
use Rattle.fills.specs.fill_rows.Form.{Form}

-- a second RFC 4180 book; "one of no bytes has no rows"
pub data TextRows : List ℕ → List (List Cell) → Type 0 where
  no_bytes : TextRows [] []
  bytes : {s : List ℕ} {rows : List (List Cell)} → (s ≡ [] → ⊥) → File s rows → TextRows s rows

-- each row means a fill, in their order
pub data Forms (whose : Whose) : List (List Cell) → List Fill → Type 0 where
  no_form : Forms whose [] []
  form : {cs : List Cell} {css : List (List Cell)} {f : Fill} {fs : List Fill} → Form whose cs f → Forms whose css fs → Forms whose (cs ∷ css) (f ∷ fs)

-- what stands in no list
abbrev pub no_fill : Fill
no_fill = record { member = no_name; soil = 0; slope = 0; value = 0 }

-- a fill of the list has this member, soil and slope, and this is its value
pub record Lists (fs : List Fill) (member : Name) (soil slope value : ℕ) : Type 0 where
  pub at : ℕ
  pub within : at < length fs
  pub is : get_or fs at no_fill ≡ record { member = member; soil = soil; slope = slope; value = value }

-- two fills have one member, soil and slope
pub record SamePlace (f g : Fill) : Type 0 where
  pub member : f.member ≡ g.member
  pub soil : f.soil ≡ g.soil
  pub slope : f.slope ≡ g.slope

-- and no two fills of the list do
abbrev pub Once : List Fill → Type 0
Once fs = (j k : ℕ) → j < k → k < length fs → SamePlace (get_or fs j no_fill) (get_or fs k no_fill) → ⊥

-- the bytes are a fill book, and these are its fills
pub record FillBook (whose : Whose) (s : List ℕ) (fs : List Fill) : Type 0 where
  pub size : length s ≤ 65536
  pub rows : List (List Cell)
  pub text : TextRows s rows
  pub forms : Forms whose rows fs
  pub once : Once fs
