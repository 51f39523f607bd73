-- `nearest_of` meets its contract: a case for each stretch of the exponent's field. What the digits leave over the unit tells whether the double is whole, since a
-- double that is whole has no other nearest number.
use mathlib.Core.Path.{◌≡◌, refl, sym, ◌∙◌, subst, subst₂, subst⁻¹}
use mathlib.Core.Bool.{Bool, true, false}
use Prim.Native.Nat.{ℕ, ◌+◌, ◌-◌, ◌*◌, ◌/◌, ◌%◌, ◌^◌, ◌≤◌, ◌<◌}
use native.Mathlib.Nat.{mod-lt, one-mul, le-div_iff_mul-le}
use native.Mathlib.Omega.{arith}
use lib.Dec.{leb, lit<}
use lib.Pow.{pow_mono, pow_pos, shl_exact}
use lib.IntN.{pos, nat_abs}
use lib.Ieee.{binary64, of_bits}
use Rattle.std.specs.Prelude.{Some}
use Rattle.doubles.specs.declared.Whole.{Whole}
use Rattle.arithmetic.specs.rounding.Least.{RoundedDown}
use Rattle.arithmetic.specs.rounding.Rounding.{Rounding}
use Rattle.arithmetic.specs.rounding.Rounding as rounding
use Rattle.arithmetic.specs.signed.Whole.{signed}
use Rattle.arithmetic.proofs.Deciding.{decides_same}
use Rattle.arithmetic.proofs.rounding.Laws.{greatest_one, down_div}
use Rattle.arithmetic.proofs.rounding.Exactness.{exact_down}
use Rattle.doubles.specs.Doubles.{Exactly, Nearest}
use Rattle.doubles.specs.Answers.{NearestIs}
use Rattle.doubles.proofs.Signs.{size_signed, amount_signed}
use Rattle.doubles.proofs.Wholes.{nearest_one, exactly_nearest}
use Rattle.doubles.proofs.Patterns.{below_half, from_half, beyond, reached, zero_exactly, exactly_zero, digits_exactly, exactly_digits}
use Rattle.doubles.proofs.nearest_of.Goals as goal

-- a pattern's field
abbrev field : ℕ → ℕ
field b = b % 2 ^ 63 / 2 ^ 52

-- what the code adds to the digits: half of what it divides by
abbrev half : ℕ → ℕ
half b = (1 * 2 ^ (1074 - field b)) % 2 ^ 64

-- the quotient that it takes, rounded down
abbrev size : ℕ → ℕ
size b = (2 ^ 52 + b % 2 ^ 52 + half b) / (2 * half b)

module _ (b : ℕ) (low : 1022 ≤ field b) where
  half_is : half b ≡ 2 ^ (1074 - field b)
  half_is = shl_exact 1 (1074 - field b) 64 (lit< tt) (omega arith) ∙ one-mul (2 ^ (1074 - field b))

  half_most : half b ≤ 2 ^ 52
  half_most = subst⁻¹ (λ (x : ℕ). x ≤ 2 ^ 52) half_is (pow_mono {i = 1074 - field b} {j = 52} (omega arith))

  half_pos : 0 < half b
  half_pos = subst⁻¹ (λ (x : ℕ). 0 < x) half_is (pow_pos (1074 - field b))

  size_pos : 0 < size b
  size_pos = (le-div_iff_mul-le {k = 2 * half b} {x = 1} {y = 2 ^ 52 + b % 2 ^ 52 + half b} (omega (arith, half_pos))).1 (omega (arith, half_most))

  size_is : (n : ℕ) → RoundedDown (2 ^ 52 + b % 2 ^ 52 + half b) (2 * half b) n → n ≡ size b
  size_is n r = greatest_one r (down_div (2 ^ 52 + b % 2 ^ 52 + half b) (2 * half b) (omega (arith, half_pos)))

  near : field b ≤ 1054 → Nearest (of_bits binary64 b) (signed (leb (2 ^ 63) b) (size b))
  unfolding of_bits
  near high =
      subst⁻¹ (λ (x : ℕ). Nearest (of_bits binary64 b) (signed (leb (2 ^ 63) b) ((2 ^ 52 + b % 2 ^ 52 + x) / (2 * x)))) half_is
      (from_half (leb (2 ^ 63) b) (field b) (b % 2 ^ 52) low high)

  -- whether the nearest number, of the size n, is the double: where the digits leave nothing it is their quotient k, and nowhere else. d is any number that is
  -- the digits, so that an edit of what is divided is refused by that
  module _ {d : ℕ} (k n : ℕ) (high : field b ≤ 1054) (digits : d ≡ 2 ^ 52 + b % 2 ^ 52) where
    quotient_exactly : Nearest (of_bits binary64 b) (signed (leb (2 ^ 63) b) n) → k * (2 * half b) ≡ d → Exactly (of_bits binary64 b) (signed (leb (2 ^ 63) b) n)
    unfolding of_bits
    quotient_exactly close nothing =
        let x = of_bits binary64 b in
        let s = leb (2 ^ 63) b in
        let w = digits_exactly s (field b) (b % 2 ^ 52) k low high (subst (λ (h : ℕ). k * (2 * h) ≡ d) half_is nothing ∙ digits) in
        subst (Exactly x) (nearest_one x (signed s k) (signed s n) (exactly_nearest x (signed s k) w) close) w

    exactly_quotient : RoundedDown d (2 * half b) k → Exactly (of_bits binary64 b) (signed (leb (2 ^ 63) b) n) → k * (2 * half b) ≡ d
    unfolding of_bits
    exactly_quotient r w =
        let s = leb (2 ^ 63) b in
        let e : nat_abs (signed s n) * (2 * 2 ^ (1074 - field b)) ≡ d = exactly_digits s (field b) (b % 2 ^ 52) (signed s n) low high w ∙ sym digits in
        let nothing : n * (2 * half b) ≡ d = subst₂ (λ (m h : ℕ). m * (2 * h) ≡ d) (size_signed s n) (sym half_is) e in
        subst⁻¹ (λ (m : ℕ). m * (2 * half b) ≡ d) (greatest_one r (exact_down d (2 * half b) n (omega (arith, half_pos)) nothing)) nothing

  exact_told : {d k : ℕ} {exact : Bool} (n : ℕ) → field b ≤ 1054 → Nearest (of_bits binary64 b) (signed (leb (2 ^ 63) b) n)
      → Rounding (RoundedDown d (2 * half b)) (rounding.Exactly d (2 * half b)) k exact
      → d ≡ 2 ^ 52 + b % 2 ^ 52 → Rounding (Nearest (of_bits binary64 b)) (Exactly (of_bits binary64 b)) (signed (leb (2 ^ 63) b) n) exact
  exact_told {k = k} {exact = exact} n high close r digits =
      record { rounded = close; told = decides_same exact (quotient_exactly k n high digits close) (exactly_quotient k n high digits r.rounded) r.told }

-- below a half: whether zero is the double, by whether the field and the digits are 0
module _ (b : ℕ) (small : field b < 1022) where
  abbrev Told : Bool → Type 0
  Told = Rounding (Nearest (of_bits binary64 b)) (Exactly (of_bits binary64 b)) (pos 0)

  zero_told : field b ≡ 0 → b % 2 ^ 52 ≡ 0 → Told true
  unfolding of_bits
  zero_told e k =
      let s = leb (2 ^ 63) b in
      record { rounded = below_half s (field b) (b % 2 ^ 52) small (mod-lt b (lit< tt)); told = zero_exactly s (field b) (b % 2 ^ 52) e k }

  below_told : (field b ≡ 0 → b % 2 ^ 52 ≡ 0 → ⊥) → Told false
  unfolding of_bits
  below_told some =
      let s = leb (2 ^ 63) b in
      record {
        rounded = below_half s (field b) (b % 2 ^ 52) small (mod-lt b (lit< tt));
        told = λ w. let zero = exactly_zero s (field b) (b % 2 ^ 52) small w in some zero.0 zero.1;
      }

pub returns-then-field-gt1054 : goal.returns-then-field-gt1054
unfolding of_bits
returns-then-field-gt1054 c = let b = c.args.bits in beyond (leb (2 ^ 63) b) (field b) (b % 2 ^ 52) (omega arith)

pub returns-then-magnitude-eq0 : goal.returns-then-magnitude-eq0
returns-then-magnitude-eq0 c =
    let none = c.if-magnitude-eq0.true in
    let b = c.args.bits in
    subst⁻¹ (λ (w : Whole). NearestIs (of_bits binary64 b) (Some w)) c.nothing.ensures (pos 0, zero_told b (omega (arith, none)) (omega (arith, none)) (omega (arith, none)), refl, lit< tt)

pub returns-then-field-lt1022 : goal.returns-then-field-lt1022
returns-then-field-lt1022 c =
    let b = c.args.bits in
    subst⁻¹ (λ (w : Whole). NearestIs (of_bits binary64 b) (Some w)) c.nothing-then-field-lt1022.ensures
    (pos 0, below_told b (omega arith) (λ e k. omega (arith, e, k, c.if-magnitude-eq0.false)), refl, lit< tt)

pub overflow_mul-unit : goal.overflow_mul-unit
overflow_mul-unit c = omega (arith, half_most c.args.bits (omega arith))

-- the size that is told is that of the nearest number
module _ (b : ℕ) (n : ℕ) (low : 1022 ≤ field b) (high : field b ≤ 1054) (rounded : RoundedDown (2 ^ 52 + b % 2 ^ 52 + half b) (2 * half b) n) where
  close : Nearest (of_bits binary64 b) (signed (leb (2 ^ 63) b) n)
  close = subst⁻¹ (λ (n : ℕ). Nearest (of_bits binary64 b) (signed (leb (2 ^ 63) b) n)) (size_is b low n rounded) (near b low high)

  some : 0 < n
  some = omega (arith, size_is b low n rounded, size_pos b low)

pub returns-then-size-ge-BEYOND : goal.returns-then-size-ge-BEYOND
returns-then-size-ge-BEYOND c =
    let b = c.args.bits in
    let n = c.down-size.result.value in
    reached (of_bits binary64 b) (leb (2 ^ 63) b) n (close b n (omega arith) (omega arith) c.down-size.ensures.rounded) (omega arith)

pub returns : goal.returns
returns c =
    let b = c.args.bits in
    let s = leb (2 ^ 63) b in
    let n = c.down-size.result.value in
    let near = close b n (omega arith) (omega arith) c.down-size.ensures.rounded in (
      signed s n,
      exact_told b (omega arith) n (omega arith) near c.down-exact.ensures (omega arith),
      amount_signed s n (some b n (omega arith) (omega arith) c.down-size.ensures.rounded),
      omega (arith, size_signed s n),
    )
