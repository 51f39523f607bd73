-- A double has one answer of `nearest`, and one exactness.
use mathlib.Core.Path.{◌≡◌, refl, sym, ap, ◌∙◌}
use native.Mathlib.Nat.{not-le_of_lt}
use lib.Ieee.{Float}
use Rattle.std.specs.Prelude.{Option, Some, None}
use Rattle.arithmetic.specs.signed.Whole.{amount}
use Rattle.arithmetic.proofs.rounding.Exactness.{rounding_one}
use Rattle.doubles.specs.Answers.{NearestIs}
use Rattle.doubles.specs.declared.Whole.{Whole}
use Rattle.doubles.proofs.Wholes.{nearest_one}

pub nearest_is_one : (x : Float) (a b : Option Whole) → NearestIs x a → NearestIs x b → a ≡ b
nearest_is_one x (Some a) (Some b) u v =
    let one = rounding_one (nearest_one x u.0 v.0) u.1 v.1 in
    λ i. Some (record { amount = (u.2 ∙ ap amount one.0 ∙ sym v.2) i; exact = one.1 i })
nearest_is_one x (Some a) None u v = absurd (not-le_of_lt u.3 (v u.0 u.1.rounded))
nearest_is_one x None (Some b) u v = absurd (not-le_of_lt v.3 (u v.0 v.1.rounded))
nearest_is_one x None None u v = refl
