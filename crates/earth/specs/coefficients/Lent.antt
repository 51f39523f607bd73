-- Document 02, P4: what is held for a soil and a slope, of numbers lent soil by slope.
use Rattle.std.specs.Prelude.{cond, ◌&&◌, List, [], ℕ, zero, suc, leb, get_or, None, Some}
use Rattle.earth.specs.coefficients.Coefficients.{Coefficient}

-- "value (1 to 40,000)": any other number is none, and marks a place at which nothing is held
unfoldable pub coefficient : ℕ → Coefficient
coefficient n = cond (leb 1 n && leb n 40000) (Some n) None

-- what is held for a soil and a slope, each counted from 1
unfoldable pub fill_of : List (List ℕ) → ℕ → ℕ → Coefficient
fill_of held zero slope = None
fill_of held (suc i) zero = None
fill_of held (suc i) (suc j) = coefficient (get_or (get_or held i []) j 0)
