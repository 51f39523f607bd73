-- Document 02, P4: the values that two fill books hold for members, "own before common" (01, Forms by place: "an array of arrays, soil by slope, with a mark").
use Rattle.std.specs.Prelude.{ℕ, zero, suc, ◌<◌, min, ◌≡◌, Bool, true, false, List, [], length, get_or, set, None, Some}
use Rattle.fields.specs.declared.names.Name.{Name}
use Rattle.earth.specs.coefficients.Coefficients.{Coefficient}
use Rattle.fills.specs.declared.fill_rows.Fill.{Fill}
use Rattle.fills.specs.Says.{Says, Accepted}

-- the number held at a soil and a slope, each counted from 0
abbrev pub cell : List (List ℕ) → ℕ → ℕ → ℕ
cell held i j = get_or (get_or held i []) j 0

-- five soils by five slopes
pub record FiveByFive (held : List (List ℕ)) : Type 0 where
  pub soils : length held ≡ 5
  pub slopes : (i : ℕ) → i < 5 → length (get_or held i []) ≡ 5

-- what stands for a value, and 0 where there is none
abbrev pub mark : Coefficient → ℕ
mark None = 0
mark (Some value) = value

-- a place holds what the two lists of fills say
pub record Marked (owns commons : List Fill) (member : Name) (soil slope number : ℕ) : Type 0 where
  pub held : Coefficient
  pub says : Says owns commons member soil slope held
  pub is : number ≡ mark held

-- the values of a member
pub record ValuesFor (owns commons : List Fill) (member : Name) (held : List (List ℕ)) : Type 0 where
  pub shape : FiveByFive held
  pub each : (i j : ℕ) → i < 5 → j < 5 → Marked owns commons member (suc i) (suc j) (cell held i j)

-- values, and those of one member more at the place k
pub record OneMore (Earlier : List (List (List ℕ)) → Type 0) (owns commons : List Fill) (member : Name) (k : ℕ) (after : List (List (List ℕ))) : Type 0 where
  pub values : List (List (List ℕ))
  pub earlier : Earlier values
  pub held : List (List ℕ)
  pub own_values : ValuesFor owns commons member held
  pub are : after ≡ set values k held

-- what stands in no list
abbrev pub void_name : Name
void_name = record { len = 0; bytes = [] }

-- the values of the first n members, each at its place, and the other places as they were
unfoldable pub Gathered : (owns commons : List Fill) → List Name → List (List (List ℕ)) → ℕ → List (List (List ℕ)) → Type 0
Gathered owns commons members before zero after = after ≡ before
Gathered owns commons members before (suc k) after = OneMore (Gathered owns commons members before k) owns commons (get_or members k void_name) k after

-- both books are accepted, and the first n members, at most 64, have their values; or one is refused, and nothing is written
pub data ValuesGiven (own common : List ℕ) (members : List Name) (n : ℕ) (before after : List (List (List ℕ))) : Bool → Type 0 where
  given : (books : Accepted own common) → Gathered books.owns books.commons members before (min n 64) after → ValuesGiven own common members n before after true
  refused : (Accepted own common → ⊥) → after ≡ before → ValuesGiven own common members n before after false
