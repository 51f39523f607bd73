-- What `nearest` answers (02, P6; P7, "Every rounding is to tell also whether it was exact").
use Rattle.std.specs.Prelude.{◌^◌, ◌≤◌, ◌<◌, ◌≡◌, ℤ, nat_abs, Float, Option, Some, None}
use Rattle.arithmetic.specs.rounding.Rounding.{Rounding}
use Rattle.arithmetic.specs.signed.Whole.{amount}
use Rattle.doubles.specs.Doubles.{Exactly, Nearest}
use Rattle.doubles.specs.declared.Whole.{Whole}

-- the nearest whole number, where it has at most 32 bits, and whether the double is exactly that number; else that every nearest whole number has more,
-- and so lies beyond every range of a row. Of what is not finite there is none
abbrev pub NearestIs : Float → Option Whole → Type 0
NearestIs x (Some w) = (z : ℤ) × Rounding (Nearest x) (Exactly x) z w.exact × (w.amount ≡ amount z) × (nat_abs z < 2 ^ 32)
NearestIs x None = (z : ℤ) → Nearest x z → 2 ^ 32 ≤ nat_abs z
