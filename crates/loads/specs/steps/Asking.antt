-- What `row_count`, `lowest` and `asked_of` answer: how many rows are looked at, the lowest number that one of them shows by itself, how many
-- are optional, and their loads.
use Rattle.std.specs.Prelude.{◌≡◌, ◌⊎◌, List, [], ◌∷◌, ℕ, min, Option, None, Some}
use Rattle.arithmetic.specs.rounding.Least.{Least}
use Rattle.kinds.specs.declared.refusals.JobRefusal.{JobRefusal}
use Rattle.kinds.specs.refusals.Refusals.{refusal_number, lower_refusal}
use Rattle.kinds.specs.declared.Row.{Row}
use Rattle.earth.specs.coefficients.Coefficients.{Coefficient}
use Rattle.loads.specs.LoadRows.{optionals, AreLoads}
use Rattle.loads.specs.steps.Exerted.{RowWhen}
use Rattle.loads.specs.declared.Asked.{Asked}

-- how many of the rows are looked at: the first `count`, at most 16
unfoldable pub row_count : ℕ → ℕ
row_count count = min count 16

-- the lower of two refusals, either of which may be none
abbrev pub lowest : Option JobRefusal → Option JobRefusal → Option JobRefusal
lowest None second = second
lowest (Some first) None = Some first
lowest (Some first) (Some second) = Some (lower_refusal first second)

-- P holds of some row
unfoldable pub AnyRow : (Row → Type 0) → List Row → Type 0
AnyRow P [] = ⊥
AnyRow P (row ∷ rows) = P row ⊎ AnyRow P rows

-- the lowest number that is shown, where any is
pub data Lowest (Shown : ℕ → Type 0) : Option JobRefusal → Type 0 where
  unshown : ((n : ℕ) → Shown n → ⊥) → Lowest Shown None
  least : {refusal : JobRefusal} → Least Shown (refusal_number refusal) → Lowest Shown (Some refusal)

-- one of the rows shows a number by itself
abbrev pub ShownBy : (ℕ → ℕ → Coefficient) → List Row → ℕ → Type 0
ShownBy fill rows n = AnyRow (λ row. RowWhen fill row n) rows

pub record AskedIs (fill : ℕ → ℕ → Coefficient) (rows : List Row) (asked : Asked) : Type 0 where
  pub first : Lowest (ShownBy fill rows) asked.first
  pub optional : asked.optional ≡ optionals rows
  pub loads : asked.first ≡ None → AreLoads fill rows asked.loads
