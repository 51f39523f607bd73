-- What a double is to the nearest whole number, and whether it is that number, by tests that are computed: of the number's size, and of its sign.
use mathlib.Core.Path.{◌≡◌, refl, sym, subst}
use mathlib.Core.Bool.{Bool, true, false, not}
use mathlib.Core.List.{List, ◌∷◌}
use Prim.Native.Nat.{ℕ, zero, suc, ◌+◌, ◌*◌}
use lib.Dec.{T, eqb}
use lib.IntN.{ℤ, pos, negsuc, nat_abs}
use lib.Ieee.{Float, nan, inf, fin, up, down}
use lib.Ieee.Fits.{down_pos}
use Rattle.arithmetic.specs.decides.Decides.{Decides}
use Rattle.arithmetic.specs.rounding.Rounding.{Rounding}
use Rattle.arithmetic.specs.signed.Whole.{signed}
use Rattle.arithmetic.proofs.Deciding.{decides_same, decides_equal}
use Rattle.arithmetic.proofs.rounding.Compute.{is_down, down_test, is_told, told_test}
use Rattle.arithmetic.proofs.rounding.Tables.{both, both_first, both_second}
use Rattle.doubles.specs.Doubles.{Exactly, Nearest}
use Rattle.doubles.proofs.Wholes.{value_exactly, exactly_value}
use Rattle.reactions.specs.declared.xdr.FrameLoad.TheVariants.{Line, Pressure}
use Rattle.reactions.specs.Force.{kilonewtons}
use Rattle.figures.specs.Figures.{WorkedFigure, nearest_whole, line_load, pressure_load, double, AllHold, more}

-- a number has the sign of the double, and zero has either
abbrev has_sign : Bool → ℤ → Bool
has_sign s (pos zero) = true
has_sign s (pos (suc n)) = not s
has_sign s (negsuc n) = s

sign_test : (s : Bool) (z : ℤ) → T (has_sign s z) → z ≡ signed s (nat_abs z)
unfolding signed
sign_test true (pos zero) t = refl
sign_test false (pos zero) t = refl
sign_test true (pos (suc n)) t = absurd t
sign_test false (pos (suc n)) t = refl
sign_test true (negsuc n) t = refl
sign_test false (negsuc n) t = absurd t

abbrev pub is_nearest : Float → ℤ → Bool
is_nearest nan z = false
is_nearest (inf s) z = false
is_nearest (fin s m e) z = both (is_down (2 * (m * up e) + down e) (2 * down e) (nat_abs z)) (has_sign s z)

pub nearest_test : (x : Float) (z : ℤ) → T (is_nearest x z) → Nearest x z
nearest_test nan z t = absurd t
nearest_test (inf s) z t = absurd t
nearest_test (fin s m e) z t =
    let size = is_down (2 * (m * up e) + down e) (2 * down e) (nat_abs z) in
    (nat_abs z, down_test _ _ _ (both_first size (has_sign s z) t), sign_test s z (both_second size (has_sign s z) t))

-- a double that is near a number is that number where their sizes are equal
abbrev is_whole : Float → ℤ → Bool
is_whole nan z = false
is_whole (inf s) z = false
is_whole (fin s m e) z = eqb (nat_abs z * down e) (m * up e)

whole_test : (x : Float) (z : ℤ) → T (is_nearest x z) → Decides (is_whole x z) (Exactly x z)
whole_test nan z t = absurd t
whole_test (inf s) z t = absurd t
whole_test (fin s m e) z t =
    let signs = both_second (is_down (2 * (m * up e) + down e) (2 * down e) (nat_abs z)) (has_sign s z) t in
    decides_same {P = nat_abs z * down e ≡ m * up e} (eqb (nat_abs z * down e) (m * up e))
    (λ same. subst (Exactly (fin s m e)) (sym (sign_test s z signs)) (value_exactly (fin s m e) s (m * up e) (down e) (nat_abs z) (down_pos e) (sym same) (refl, refl)))
    (λ w. exactly_value (fin s m e) s (m * up e) (down e) z (refl, refl) w)
    (decides_equal (nat_abs z * down e) (m * up e))

-- both at once, for whatever is told of it
abbrev is_rounding : Float → ℤ → Bool → Bool
is_rounding x z exact = both (is_nearest x z) (is_told exact (is_whole x z))

rounding_test : (x : Float) (z : ℤ) (exact : Bool) → T (is_rounding x z exact) → Rounding (Nearest x) (Exactly x) z exact
rounding_test x z exact t =
    let told = is_told exact (is_whole x z) in
    let near = both_first (is_nearest x z) told t in
    record { rounded = nearest_test x z near; told = told_test (Exactly x z) exact (is_whole x z) (both_second (is_nearest x z) told t) (whole_test x z near) }

-- a figure by its test, before those behind it
module _ {whole : ℤ} {xs : List WorkedFigure} where
  pub whole_shown : {bits : ℕ} {exact : Bool} → T (is_rounding (double bits) whole exact) → AllHold xs → AllHold (nearest_whole bits whole exact ∷ xs)
  whole_shown {bits} {exact} t rest = more {x = nearest_whole bits whole exact} (rounding_test (double bits) whole exact t) rest

  pub line_shown : {q l : ℕ} → T (is_nearest (kilonewtons (Line (double q) (double l))) whole) → AllHold xs → AllHold (line_load q l whole ∷ xs)
  line_shown {q} {l} t rest = more {x = line_load q l whole} (nearest_test (kilonewtons (Line (double q) (double l))) whole t) rest

  pub pressure_shown : {p a b : ℕ} → T (is_nearest (kilonewtons (Pressure (double p) (double a) (double b))) whole) → AllHold xs
      → AllHold (pressure_load p a b whole ∷ xs)
  pressure_shown {p} {a} {b} t rest =
      more {x = pressure_load p a b whole} (nearest_test (kilonewtons (Pressure (double p) (double a) (double b))) whole t) rest
