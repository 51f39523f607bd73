-- A finite double has one nearest whole number, which only its value decides; a double that is whole is its own. The nearest number is a quotient
-- rounded down, and equal fractions have equal quotients. A double that is a fraction is exactly a whole number where the fraction is.
use mathlib.Core.Path.{◌≡◌, refl, sym, ap, ◌∙◌, subst}
use mathlib.Core.Bool.{Bool}
use Prim.Native.Nat.{ℕ, ◌+◌, ◌*◌, ◌/◌, ◌<◌}
use native.Mathlib.Nat.{add-mul, mul-one, mul_comm, mul_left_comm, mul_right_comm, mul-mul-mul_comm, eq_of_mul-eq-mul_right}
use native.Mathlib.Omega.{arith}
use lib.Dec.{lit<}
use lib.IntN.{ℤ, nat_abs}
use lib.Ieee.{Float, nan, inf, fin, up, down}
use lib.Ieee.Exact.{HasValue}
use lib.Ieee.Fits.{down_pos}
use lib.Ieee.Nearest.{div_same}
use Rattle.arithmetic.specs.rounding.Least.{RoundedDown}
use Rattle.arithmetic.specs.signed.Whole.{signed}
use Rattle.arithmetic.proofs.rounding.Laws.{greatest_one, down_div}
use Rattle.doubles.specs.Doubles.{Finite, Exactly, Nearest}
use Rattle.doubles.proofs.Signs.{size_signed}

-- the size a / c to the nearest whole number, halves up
abbrev pub rounded : ℕ → ℕ → ℕ
rounded a c = (2 * a + c) / (2 * c)

pub expand : (a c d : ℕ) → (2 * a + c) * (2 * d) ≡ 4 * (a * d) + 2 * (c * d)
expand a c d = omega (arith, add-mul (2 * a) c (2 * d), mul-mul-mul_comm 2 a 2 d, mul_left_comm c 2 d)

rounded_same : (a c b d : ℕ) → 0 < c → 0 < d → a * d ≡ b * c → rounded a c ≡ rounded b d
rounded_same a c b d p q e =
    div_same (2 * a + c) (2 * c) (2 * b + d) (2 * d) (omega arith) (omega arith) (omega (arith, expand a c d, expand b d c, mul_comm c d))

-- of a double of the size a / c
pub nearest_value : (x : Float) (s : Bool) (a c : ℕ) → 0 < c → HasValue x s a c → Nearest x (signed s (rounded a c))
nearest_value nan s a c p v = v
nearest_value (inf t) s a c p v = v
nearest_value (fin t m e) s a c p v = (
  rounded a c,
  subst (RoundedDown (2 * (m * up e) + down e) (2 * down e)) (rounded_same (m * up e) (down e) a c (down_pos e) p v.1)
      (down_div (2 * (m * up e) + down e) (2 * down e) (omega (arith, down_pos e))),
  ap (λ (b : Bool). signed b (rounded a c)) (sym v.0),
)

pub nearest_some : (x : Float) → Finite x → (z : ℤ) × Nearest x z
nearest_some nan f = absurd f
nearest_some (inf s) f = absurd f
nearest_some (fin s m e) f = (signed s (rounded (m * up e) (down e)), nearest_value (fin s m e) s (m * up e) (down e) (down_pos e) (refl, refl))

pub nearest_one : (x : Float) (y z : ℤ) → Nearest x y → Nearest x z → y ≡ z
nearest_one nan y z u v = absurd u
nearest_one (inf s) y z u v = absurd u
nearest_one (fin s m e) y z u v = u.2 ∙ ap (signed s) (greatest_one u.1 v.1) ∙ sym v.2

-- what is whole is not changed
pub exactly_nearest : (x : Float) (z : ℤ) → Exactly x z → Nearest x z
exactly_nearest x z h = subst (Nearest x) (ap (signed h.minus) (omega arith) ∙ sym h.is) (nearest_value x h.minus h.size 1 (lit< tt) h.value)

pub exactly_one : (x : Float) (y z : ℤ) → Exactly x y → Exactly x z → y ≡ z
exactly_one x y z u v = nearest_one x y z (exactly_nearest x y u) (exactly_nearest x z v)

-- the same size over a denominator of 1
pub lowest : (x : Float) (s : Bool) (num den w : ℕ) → 0 < den → num ≡ w * den → HasValue x s num den → HasValue x s w 1
lowest nan s num den w p h v = v
lowest (inf t) s num den w p h v = v
lowest (fin t m e) s num den w p h v = (
  v.0,
  eq_of_mul-eq-mul_right den p (m * up e * 1) (w * down e)
      (ap (λ (k : ℕ). k * den) (mul-one (m * up e)) ∙ v.1 ∙ ap (λ (k : ℕ). k * down e) h ∙ mul_right_comm w den (down e)),
)

-- a double of the size a / c is exactly a whole number of the size n where n * c is a, and nowhere else
pub value_exactly : (x : Float) (s : Bool) (a c n : ℕ) → 0 < c → a ≡ n * c → HasValue x s a c → Exactly x (signed s n)
value_exactly x s a c n p h v = record { minus = s; size = n; value = lowest x s a c n p h v; is = refl }

same_size : (x : Float) (s t : Bool) (a c n : ℕ) → HasValue x s a c → HasValue x t n 1 → n * c ≡ a
same_size nan s t a c n v w = absurd v
same_size (inf i) s t a c n v w = absurd v
same_size (fin i m e) s t a c n v w =
    eq_of_mul-eq-mul_right (down e) (down_pos e) (n * c) a
    (mul_right_comm n c (down e) ∙ ap (λ (k : ℕ). k * c) (sym w.1 ∙ mul-one (m * up e)) ∙ v.1)

pub exactly_value : (x : Float) (s : Bool) (a c : ℕ) (z : ℤ) → HasValue x s a c → Exactly x z → nat_abs z * c ≡ a
exactly_value x s a c z v h =
    ap (λ (k : ℕ). k * c) (ap nat_abs h.is ∙ size_signed h.minus h.size) ∙ same_size x s h.minus a c h.size v h.value
