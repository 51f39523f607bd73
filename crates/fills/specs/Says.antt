-- Document 02, P4: what the two fill books say. "For a member's jobs an own row wins; otherwise the common table .. is used."
use Rattle.std.specs.Prelude.{ℕ, ◌≡◌, List, None, Some}
use Rattle.fields.specs.names.Names.{no_name}
use Rattle.fields.specs.declared.names.Name.{Name}
use Rattle.earth.specs.coefficients.Coefficients.{Coefficient}
use Rattle.fills.specs.declared.fill_rows.Fill.{Fill}
use Rattle.fills.specs.declared.fill_rows.Whose.TheVariants.{Own, Common}
use Rattle.fills.specs.FillBook.{Lists, FillBook}

-- no fill of the list has this member, soil and slope
abbrev pub Lacks : List Fill → Name → ℕ → ℕ → Type 0
Lacks fs member soil slope = (value : ℕ) → Lists fs member soil slope value → ⊥

-- what own and common fills hold for a member, a soil and a slope; "15 now means that neither book has a value"
pub data Says (owns commons : List Fill) (member : Name) (soil slope : ℕ) (c : Coefficient) : Type 0 where
  own : {value : ℕ} → Lists owns member soil slope value → c ≡ Some value → Says owns commons member soil slope c
  common : {value : ℕ} → Lacks owns member soil slope → Lists commons no_name soil slope value → c ≡ Some value → Says owns commons member soil slope c
  neither : Lacks owns member soil slope → Lacks commons no_name soil slope → c ≡ None → Says owns commons member soil slope c

-- both books are fill books, each of its own kind: neither is refused with 8
pub record Accepted (own common : List ℕ) : Type 0 where
  pub owns : List Fill
  pub commons : List Fill
  pub is_own : FillBook Own own owns
  pub is_common : FillBook Common common commons

-- what two accepted books hold for a member, by soil and slope
pub record FillFor (own common : List ℕ) (member : Name) (fill : ℕ → ℕ → Coefficient) : Type 0 where
  pub books : Accepted own common
  pub says : (soil slope : ℕ) → Says books.owns books.commons member soil slope (fill soil slope)
