-- Document 02, P4: "rows .. member, soil, slope, value (1 to 40,000), note"; the common book is "in the same layout with the member empty
-- (there only)". What the cells of a row mean.
use Rattle.std.specs.Prelude.{ℕ, ◌≤◌, ◌≡◌, List, [], ◌∷◌}
use Rattle.csv_text.specs.rfc4180.Rfc4180.{Cell}
use Rattle.fields.specs.Numbers.{IsNumber, positive}
use Rattle.fields.specs.names.Names.{NameOf, no_name}
use Rattle.fields.specs.declared.names.Name.{Name}
use Rattle.fills.specs.declared.fill_rows.Fill.{Fill}
use Rattle.fills.specs.declared.fill_rows.Whose.{Whose}
use Rattle.fills.specs.declared.fill_rows.Whose.TheVariants.{Own, Common}

-- the five fields
pub record Five : Type 0 where
  pub member : Cell
  pub soil : Cell
  pub slope : Cell
  pub value : Cell
  pub note : Cell

-- as a row has them, in their order
abbrev pub cells_of : Five → List Cell
cells_of t = t.member ∷ t.soil ∷ t.slope ∷ t.value ∷ t.note ∷ []

-- the member of a row: a name in the members' own book, nothing in the common one
abbrev pub MemberIs : Whose → List ℕ → Name → Type 0
MemberIs Own content member = NameOf content member
MemberIs Common content member = (content ≡ []) × (member ≡ no_name)

-- a number from 1 to a bound
pub record UpTo (bound : ℕ) (content : List ℕ) (n : ℕ) : Type 0 where
  pub number : IsNumber content (positive n)
  pub from : 1 ≤ n
  pub to : n ≤ bound

-- the cells of a row, and the fill that they mean: soils and slopes as Table 2 counts them, and any note
pub record Form (whose : Whose) (cs : List Cell) (f : Fill) : Type 0 where
  pub five : Five
  pub are : cs ≡ cells_of five
  pub member : MemberIs whose five.member.content f.member
  pub soil : UpTo 5 five.soil.content f.soil
  pub slope : UpTo 5 five.slope.content f.slope
  pub value : UpTo 40000 five.value.content f.value
