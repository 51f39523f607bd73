-- Document 02, P4: "From here a job's answer also depends on its own member's rows and the common ones", by their values alone.
use Rattle.std.specs.Prelude.{ℕ, List}
use Rattle.fields.specs.declared.names.Name.{Name}
use Rattle.earth.specs.coefficients.Coefficients.{Coefficient}
use Rattle.fills.specs.declared.fill_rows.Fill.{Fill}
use Rattle.fills.specs.FillBook.{Lists}
use Rattle.fills.specs.Says.{FillFor}

-- two pairs of accepted fill books hold the same values for a member by soil and slope, own before common
pub record SameValues (own common own' common' : List ℕ) (member : Name) : Type 0 where
  pub fill : ℕ → ℕ → Coefficient
  pub here : FillFor own common member fill
  pub there : FillFor own' common' member fill

-- two lists have the same fills of a member, whatever else they have and in whatever order
pub record SameFills (fs gs : List Fill) (member : Name) : Type 0 where
  pub there : (soil slope value : ℕ) → Lists fs member soil slope value → Lists gs member soil slope value
  pub back : (soil slope value : ℕ) → Lists gs member soil slope value → Lists fs member soil slope value
