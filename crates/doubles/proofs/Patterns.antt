-- The nearest whole number of a pattern's double, by the field f of its exponent and its digits t: zero where f is below 1022, more than 32 bits from
-- 1055 on, and the digits over a power of two between. The field and the digits are the double's exact value, over 2^1074; so below a half zero alone is
-- whole, and between a double is whole where that power of two goes into the digits.
use mathlib.Core.Path.{◌≡◌, refl, sym, ap, ◌∙◌, subst, subst⁻¹}
use mathlib.Core.Bool.{Bool, true, false, cond}
use Prim.Native.Nat.{ℕ, zero, suc, ◌+◌, ◌-◌, ◌*◌, ◌/◌, ◌^◌, ◌≤◌, ◌<◌}
use native.Mathlib.Nat.{lt_of_lt_of_le, lt_of_le_of_lt, lt_trans, le_of_suc-le-suc, not-suc-le-zero, ne_of_lt, le-add_right, add-mul, mul_comm, mul_assoc, mul_left_comm, mul-pos, mul-le-mul, mul-one, lt_irrefl, eq_of_mul-eq-mul_right, div-eq_of_lt, le-div_iff_mul-le}
use native.Mathlib.Decide.{ℕ_discrete}
use native.Mathlib.Omega.{arith}
use lib.Dec.{lit<, lit≤, eqb}
use lib.Pow.{pow_pos, pow_mono, pow-add, shl_lt}
use lib.IntN.{ℤ, pos, nat_abs}
use lib.Ieee.{Float, nan, inf, binary64, of_fields}
use lib.Ieee.Exact.{HasValue, odd_sign}
use lib.Ieee.Nearest.{div_same}
use borrow.Author.Tests.{ne_eqb}
use Rattle.arithmetic.specs.signed.Whole.{signed}
use Rattle.arithmetic.proofs.Cases.{by_cases}
use Rattle.doubles.specs.Doubles.{Exactly, Nearest}
use Rattle.doubles.proofs.Signs.{size_signed, signed_none}
use Rattle.doubles.proofs.Wholes.{rounded, expand, nearest_value, nearest_one, value_exactly, exactly_value}

-- every number near x is this large, since there is one
pub reached : (x : Float) (s : Bool) (n : ℕ) → Nearest x (signed s n) → 2 ^ 32 ≤ n → (z : ℤ) → Nearest x z → 2 ^ 32 ≤ nat_abs z
reached x s n u h z v = subst (λ (k : ℕ). 2 ^ 32 ≤ k) (sym (size_signed s n) ∙ ap nat_abs (nearest_one x (signed s n) z u v)) h

-- `omega` takes no numeral of more than 38 digits, so these stand over variables
enough : (k b a c : ℕ) → b ≤ a → k ≤ 2 * b → k ≤ 2 * a + c
enough k b a c h l = omega arith

few : (a b c : ℕ) → a < b → 2 * b ≤ c → 2 * a + c < 2 * c
few a b c h l = omega arith

-- below a half
none : (x : Float) (s : Bool) (a : ℕ) → HasValue x s a (2 ^ 1074) → a < 2 ^ 1073 → Nearest x (pos 0)
none x s a v h =
    subst (Nearest x) (ap (signed s) (div-eq_of_lt (few a (2 ^ 1073) (2 ^ 1074) h (lit≤ tt))) ∙ signed_none s) (nearest_value x s a (2 ^ 1074) (lit< tt) v)

-- the highest field is that of no finite number
endless : (s : Bool) (t : ℕ) (z : ℤ) → Nearest (of_fields binary64 s 2047 t) z → ⊥
unfolding of_fields
endless s t z = go (eqb t 0)
  where
    go : (b : Bool) → Nearest (cond b (inf s) nan) z → ⊥
    go true v = v
    go false v = v

-- q 2^y / 2^1074, with y and h + 1 together 1,074, is q / (2 2^h)
scaled : (q y h c : ℕ) → c ≡ y * (2 * h) → (2 * (q * y) + c) * (2 * h) ≡ (q + h) * (2 * c)
scaled q y h c e =
    let over : q * c ≡ 2 * (q * y * h) = ap (λ (k : ℕ). q * k) e ∙ sym (mul_assoc q y (2 * h)) ∙ mul_left_comm (q * y) 2 h in
    omega (arith, expand (q * y) c h, add-mul q h (2 * c), mul_left_comm q 2 c, mul_left_comm h 2 c, mul_comm h c)

powers : (y h : ℕ) → y + (1 + h) ≡ 1074 → 2 ^ 1074 ≡ 2 ^ y * (2 * 2 ^ h)
powers y h e = ap (λ (k : ℕ). 2 ^ k) (sym e) ∙ pow-add 2 y (1 + h) ∙ ap (λ (k : ℕ). 2 ^ y * k) (pow-add 2 1 h)

-- where the field is neither the lowest nor the highest, a leading digit stands above the others
abbrev units : ℕ → ℕ → ℕ
units y t = (2 ^ 52 + t) * 2 ^ y

module _ (s : Bool) (y t : ℕ) (ordinary : suc y ≡ 2047 → ⊥) where
  value : HasValue (of_fields binary64 s (suc y) t) s (units y t) (2 ^ 1074)
  unfolding of_fields
  value = rw (ne_eqb (suc y) 2047 ordinary) (odd_sign 53 s (2 ^ 52 + t) y 1074)

  near : Nearest (of_fields binary64 s (suc y) t) (signed s (rounded (units y t) (2 ^ 1074)))
  near = nearest_value (of_fields binary64 s (suc y) t) s (units y t) (2 ^ 1074) (lit< tt) value

middle : (y t h : ℕ) → y + (1 + h) ≡ 1074 → rounded (units y t) (2 ^ 1074) ≡ (2 ^ 52 + t + 2 ^ h) / (2 * 2 ^ h)
middle y t h e =
    div_same (2 * units y t + 2 ^ 1074) (2 * 2 ^ 1074) (2 ^ 52 + t + 2 ^ h) (2 * 2 ^ h) (lit< tt) (mul-pos (lit< tt) (pow_pos h))
    (scaled (2 ^ 52 + t) (2 ^ y) (2 ^ h) (2 ^ 1074) (powers y h e))

large : (y t : ℕ) → 1054 ≤ y → 2 ^ 32 ≤ rounded (units y t) (2 ^ 1074)
large y t h =
    (le-div_iff_mul-le (lit< tt)).1
    (enough (2 ^ 32 * (2 * 2 ^ 1074)) (2 ^ 52 * 2 ^ 1054) (units y t) (2 ^ 1074) (mul-le-mul (le-add_right (2 ^ 52) t) (pow_mono h)) (lit≤ tt))

pub below_half : (s : Bool) (f t : ℕ) → f < 1022 → t < 2 ^ 52 → Nearest (of_fields binary64 s f t) (pos 0)
unfolding of_fields
below_half s zero t h k =
    let small : t * 2 ^ 0 < 2 ^ 52 = omega arith in
    none (of_fields binary64 s zero t) s (t * 2 ^ 0) (odd_sign 53 s t 0 1074) (lt_of_lt_of_le small (lit≤ tt))
below_half s (suc y) t h k =
    none (of_fields binary64 s (suc y) t) s (units y t) (value s y t (ne_of_lt (lt_trans h (lit< tt))))
    (lt_of_lt_of_le (shl_lt 53 y (omega arith)) (pow_mono {i = 53 + y} {j = 1073} (omega arith)))

pub from_half : (s : Bool) (f t : ℕ) → 1022 ≤ f → f ≤ 1054 → Nearest (of_fields binary64 s f t) (signed s ((2 ^ 52 + t + 2 ^ (1074 - f)) / (2 * 2 ^ (1074 - f))))
from_half s zero t h k = absurd (not-suc-le-zero h)
from_half s (suc y) t h k =
    let ordinary : suc y ≡ 2047 → ⊥ = ne_of_lt (lt_of_le_of_lt k (lit< tt)) in
    subst (λ (n : ℕ). Nearest (of_fields binary64 s (suc y) t) (signed s n)) (middle y t (1074 - suc y) (omega arith)) (near s y t ordinary)

pub beyond : (s : Bool) (f t : ℕ) → 1054 < f → (z : ℤ) → Nearest (of_fields binary64 s f t) z → 2 ^ 32 ≤ nat_abs z
beyond s zero t h z v = absurd (not-suc-le-zero h)
beyond s (suc y) t h z v =
    by_cases (ℕ_discrete (suc y) 2047) (λ e. absurd (endless s t z (subst (λ (f : ℕ). Nearest (of_fields binary64 s f t) z) e v)))
    (λ ordinary. reached (of_fields binary64 s (suc y) t) s (rounded (units y t) (2 ^ 1074)) (near s y t ordinary) (large y t (le_of_suc-le-suc h)) z v)

-- ---- which are whole

-- below a half, zero of either sign
pub zero_exactly : (s : Bool) (f t : ℕ) → f ≡ 0 → t ≡ 0 → Exactly (of_fields binary64 s f t) (pos 0)
unfolding of_fields
zero_exactly s f t e k =
    subst⁻¹ (λ (g : ℕ). Exactly (of_fields binary64 s g t) (pos 0)) e
    (subst (Exactly (of_fields binary64 s 0 t)) (signed_none s)
    (value_exactly (of_fields binary64 s 0 t) s (t * 2 ^ 0) (2 ^ 1074) 0 (lit< tt) (mul-one t ∙ k) (odd_sign 53 s t 0 1074)))

pub exactly_zero : (s : Bool) (f t : ℕ) → f < 1022 → Exactly (of_fields binary64 s f t) (pos 0) → (f ≡ 0) × (t ≡ 0)
unfolding of_fields
exactly_zero s zero t h x = (refl, sym (mul-one t) ∙ sym (exactly_value (of_fields binary64 s zero t) s (t * 2 ^ 0) (2 ^ 1074) (pos 0) (odd_sign 53 s t 0 1074) x))
exactly_zero s (suc y) t h x =
    let ordinary : suc y ≡ 2047 → ⊥ = ne_of_lt (lt_trans h (lit< tt)) in
    let none : 0 ≡ units y t = exactly_value (of_fields binary64 s (suc y) t) s (units y t) (2 ^ 1074) (pos 0) (value s y t ordinary) x in
    absurd (lt_irrefl 0 (subst⁻¹ (λ (k : ℕ). 0 < k) none (mul-pos (omega arith) (pow_pos y))))

-- from a half on, where the power goes into the digits
divided : (n y h : ℕ) → y + (1 + h) ≡ 1074 → n * 2 ^ 1074 ≡ n * (2 * 2 ^ h) * 2 ^ y
divided n y h e = ap (λ (k : ℕ). n * k) (powers y h e ∙ mul_comm (2 ^ y) (2 * 2 ^ h)) ∙ sym (mul_assoc n (2 * 2 ^ h) (2 ^ y))

pub digits_exactly : (s : Bool) (f t n : ℕ) → 1022 ≤ f → f ≤ 1054 → n * (2 * 2 ^ (1074 - f)) ≡ 2 ^ 52 + t → Exactly (of_fields binary64 s f t) (signed s n)
digits_exactly s zero t n h k e = absurd (not-suc-le-zero h)
digits_exactly s (suc y) t n h k e =
    let ordinary : suc y ≡ 2047 → ⊥ = ne_of_lt (lt_of_le_of_lt k (lit< tt)) in
    value_exactly (of_fields binary64 s (suc y) t) s (units y t) (2 ^ 1074) n (lit< tt)
    (ap (λ (q : ℕ). q * 2 ^ y) (sym e) ∙ sym (divided n y (1074 - suc y) (omega arith))) (value s y t ordinary)

pub exactly_digits : (s : Bool) (f t : ℕ) (z : ℤ) → 1022 ≤ f → f ≤ 1054 → Exactly (of_fields binary64 s f t) z → nat_abs z * (2 * 2 ^ (1074 - f)) ≡ 2 ^ 52 + t
exactly_digits s zero t z h k x = absurd (not-suc-le-zero h)
exactly_digits s (suc y) t z h k x =
    let ordinary : suc y ≡ 2047 → ⊥ = ne_of_lt (lt_of_le_of_lt k (lit< tt)) in
    eq_of_mul-eq-mul_right (2 ^ y) (pow_pos y) (nat_abs z * (2 * 2 ^ (1074 - suc y))) (2 ^ 52 + t)
    (sym (divided (nat_abs z) y (1074 - suc y) (omega arith))
    ∙ exactly_value (of_fields binary64 s (suc y) t) s (units y t) (2 ^ 1074) z (value s y t ordinary) x)
