-- Document 02, P6: IEEE 754 doubles, as the kit's logic has them (`lib.Ieee`): not a number, an infinity, or `fin s m e`, the number m 2^e, below
-- zero where s is true; 2^e is the fraction up e / down e. What is finite, what is whole, and "the nearest whole .., halves away from zero".
use Rattle.std.specs.Prelude.{ℕ, ◌+◌, ◌*◌, ◌≡◌, Bool, T, ℤ, Float}
use Rattle.std.specs.Float.{nan, inf, fin}
use Rattle.std.specs.Float.Ieee.{up, down}
use Rattle.std.specs.Float.Ieee.Exact.{HasValue}
use Rattle.std.specs.Float.Ieee.Scale.{finite}
use Rattle.arithmetic.specs.rounding.Least.{RoundedDown}
use Rattle.arithmetic.specs.signed.Whole.{signed}

-- neither an infinity nor not a number
abbrev pub Finite : Float → Type 0
Finite x = T (finite x)

-- x is exactly the whole number z: finite, of this size over 1, and below zero or not
pub record Exactly (x : Float) (z : ℤ) : Type 0 where
  pub minus : Bool
  pub size : ℕ
  pub value : HasValue x minus size 1
  pub is : z ≡ signed minus size

-- z is x to the nearest whole number, halves away from zero: its size is the greatest n with n - 1/2 at most the size of x, and its sign that of x
abbrev pub Nearest : Float → ℤ → Type 0
Nearest nan z = ⊥
Nearest (inf s) z = ⊥
Nearest (fin s m e) z = (n : ℕ) × RoundedDown (2 * (m * up e) + down e) (2 * down e) n × (z ≡ signed s n)
