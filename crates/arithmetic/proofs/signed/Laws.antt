-- What is above and below zero of differences, opposites, products and sums: the bridge from whole numbers to the natural numbers of the code.
use mathlib.Core.Path.{◌≡◌, refl, sym, ◌∙◌, ap, ap₂}
use mathlib.Core.Bool.{Bool, true, false, cond}
use Prim.Native.Nat.{ℕ, zero, suc, ◌+◌, ◌*◌, ◌-◌, ◌≤◌, ◌<◌}
use native.Mathlib.Omega.{arith}
use native.Mathlib.Nat.{zero-mul, mul-zero, mul-le-mul}
use borrow.Author.Tests.{ltb-true, ltb-false}
use lib.Dec.{ltb}
use lib.IntN.{ℤ, pos, negsuc, neg_ℤ, nat_abs, ◌+ℤ◌, ◌-ℤ◌, ◌*ℤ◌, neg_ℤ-neg_ℤ, +ℤ_assoc, +ℤ_comm, neg_ℤ-+ℤ, pos-+ℤ-pos, +ℤ_idr, +ℤ_idl}
use Rattle.arithmetic.specs.declared.signed.Amount.{Amount}
use Rattle.arithmetic.specs.declared.signed.Parts.{Parts}
use Rattle.arithmetic.specs.signed.Whole.{signed, worth, amount, above, below}
use Rattle.arithmetic.specs.signed.Parts.{times, Small}

-- an amount's parts
pub above_minus : (a : Amount) → a.minus ≡ true → above (worth a) ≡ 0
unfolding worth signed above
above_minus a e = rw e (go a.size)
  where
    go : (n : ℕ) → above (neg_ℤ (pos n)) ≡ 0
    go zero = refl
    go (suc n) = refl

pub above_plain : (a : Amount) → a.minus ≡ false → above (worth a) ≡ a.size
unfolding worth signed above
above_plain a e = rw e

pub below_minus : (a : Amount) → a.minus ≡ true → below (worth a) ≡ a.size
unfolding worth signed below
below_minus a e = rw e (go a.size)
  where
    go : (n : ℕ) → below (neg_ℤ (pos n)) ≡ n
    go zero = refl
    go (suc n) = refl

pub below_plain : (a : Amount) → a.minus ≡ false → below (worth a) ≡ 0
unfolding worth signed below
below_plain a e = rw e

-- and they are at most its size
pub above_size : (a : Amount) → above (worth a) ≤ a.size
unfolding worth signed above
above_size a = go a.minus a.size
  where
    go : (m : Bool) (n : ℕ) → above (signed m n) ≤ n
    go true zero = omega arith
    go true (suc n) = omega arith
    go false n = omega arith

pub below_size : (a : Amount) → below (worth a) ≤ a.size
unfolding worth signed below
below_size a = go a.minus a.size
  where
    go : (m : Bool) (n : ℕ) → below (signed m n) ≤ n
    go true zero = omega arith
    go true (suc n) = omega arith
    go false n = omega arith

-- a difference: its parts, its size, its amount
by_test : (a b : ℕ) (P : ℤ → Type 0) → (a < suc b → P (negsuc (suc b - suc a))) → (suc b ≤ a → P (pos (a - suc b))) → P (pos a -ℤ pos (suc b))
by_test a b P low high = go (ltb a (suc b)) refl
  where
    go : (t : Bool) → ltb a (suc b) ≡ t → P (cond t (negsuc (suc b - suc a)) (pos (a - suc b)))
    go true e = low (ltb-true a (suc b) e)
    go false e = high (ltb-false a (suc b) e)

pub above_diff : (a b : ℕ) → above (pos a -ℤ pos b) ≡ a - b
unfolding above
above_diff a zero = omega arith
above_diff a (suc b) = by_test a b (λ z. above z ≡ a - suc b) (λ h. omega arith) (λ h. refl)

pub below_diff : (a b : ℕ) → below (pos a -ℤ pos b) ≡ b - a
unfolding below
below_diff a zero = omega arith
below_diff a (suc b) = by_test a b (λ z. below z ≡ suc b - a) (λ h. omega arith) (λ h. omega arith)

pub size_diff : (a b : ℕ) → nat_abs (pos a -ℤ pos b) ≡ (a - b) + (b - a)
size_diff a zero = omega arith
size_diff a (suc b) = by_test a b (λ z. nat_abs z ≡ (a - suc b) + (suc b - a)) (λ h. omega arith) (λ h. omega arith)

pub amount_low : (a b : ℕ) → a < b → record { minus = true; size = b - a } ≡ amount (pos a -ℤ pos b)
unfolding amount
amount_low a zero h = absurd (omega arith)
amount_low a (suc b) h =
    by_test a b (λ z. record { minus = true; size = suc b - a } ≡ amount z) (λ k. ap (λ (n : ℕ). record { minus = true; size = n }) (omega arith)) (λ k. absurd (omega arith))

pub amount_high : (a b : ℕ) → b ≤ a → record { minus = false; size = a - b } ≡ amount (pos a -ℤ pos b)
unfolding amount
amount_high a zero h = ap (λ (n : ℕ). record { minus = false; size = n }) (omega arith)
amount_high a (suc b) h = by_test a b (λ z. record { minus = false; size = a - suc b } ≡ amount z) (λ k. absurd (omega arith)) (λ k. refl)

-- the opposite number
pub above_neg : (z : ℤ) → above (neg_ℤ z) ≡ below z
unfolding above below
above_neg (pos zero) = refl
above_neg (pos (suc n)) = refl
above_neg (negsuc n) = refl

pub below_neg : (z : ℤ) → below (neg_ℤ z) ≡ above z
unfolding above below
below_neg (pos zero) = refl
below_neg (pos (suc n)) = refl
below_neg (negsuc n) = refl

-- a product
pub above_mul : (y z : ℤ) → above (y *ℤ z) ≡ above y * above z + below y * below z
unfolding above below
above_mul (pos a) (pos b) = omega (arith, zero-mul 0)
above_mul (pos a) (negsuc b) = above_neg (pos (a * suc b)) ∙ omega (arith, mul-zero a, zero-mul (suc b))
above_mul (negsuc a) (pos b) = above_neg (pos (suc a * b)) ∙ omega (arith, mul-zero (suc a), zero-mul b)
above_mul (negsuc a) (negsuc b) = omega (arith, zero-mul 0)

pub below_mul : (y z : ℤ) → below (y *ℤ z) ≡ above y * below z + below y * above z
unfolding above below
below_mul (pos a) (pos b) = omega (arith, mul-zero a, zero-mul b)
below_mul (pos a) (negsuc b) = below_neg (pos (a * suc b)) ∙ omega (arith, zero-mul 0)
below_mul (negsuc a) (pos b) = below_neg (pos (suc a * b)) ∙ omega (arith, zero-mul 0)
below_mul (negsuc a) (negsuc b) = omega (arith, mul-zero (suc a), zero-mul (suc b))

pub same_parts : {p q : Parts} → p.above ≡ q.above → p.below ≡ q.below → p ≡ q
same_parts a b = λ i. record { above = a i; below = b i }

-- the four products of small parts
pub record Products (p q : Parts) : Type 0 where
  pub first : p.above * q.above ≤ 1000000000000
  pub second : p.below * q.below ≤ 1000000000000
  pub third : p.above * q.below ≤ 1000000000000
  pub fourth : p.below * q.above ≤ 1000000000000

pub small_products : {p q : Parts} → Small p → Small q → Products p q
small_products a b = record {
  first = mul-le-mul a.above b.above;
  second = mul-le-mul a.below b.below;
  third = mul-le-mul a.above b.below;
  fourth = mul-le-mul a.below b.above;
}

pub times_low : (p q : Parts) {r : Parts} → Small p → Small q → r ≡ times p q → (r.above ≤ 2000000000000) × (r.below ≤ 2000000000000)
unfolding times
times_low p q a b e = let w = small_products a b in rw e (omega arith, omega arith)

-- twice a number
pub above_twice : (z : ℤ) → above (pos 2 *ℤ z) ≡ 2 * above z
unfolding above below
above_twice z = above_mul (pos 2) z ∙ omega arith

pub below_twice : (z : ℤ) → below (pos 2 *ℤ z) ≡ 2 * below z
unfolding above below
below_twice z = below_mul (pos 2) z ∙ omega arith

-- b less twice z, and b more twice z
pub above_less : (b : ℕ) (z : ℤ) → above (pos b -ℤ pos 2 *ℤ z) ≡ (b + 2 * below z) - 2 * above z
unfolding above below
above_less b (pos n) = above_diff b (2 * n) ∙ omega arith
above_less b (negsuc n) = ap (λ (y : ℤ). above (pos b +ℤ y)) (neg_ℤ-neg_ℤ (pos (2 * suc n))) ∙ omega arith

pub below_less : (b : ℕ) (z : ℤ) → below (pos b -ℤ pos 2 *ℤ z) ≡ 2 * above z - (b + 2 * below z)
unfolding above below
below_less b (pos n) = below_diff b (2 * n) ∙ omega arith
below_less b (negsuc n) = ap (λ (y : ℤ). below (pos b +ℤ y)) (neg_ℤ-neg_ℤ (pos (2 * suc n))) ∙ omega arith

pub above_more : (b : ℕ) (z : ℤ) → above (pos b +ℤ pos 2 *ℤ z) ≡ (b + 2 * above z) - 2 * below z
unfolding above below
above_more b (pos n) = omega arith
above_more b (negsuc n) = above_diff b (2 * suc n) ∙ omega arith

pub below_more : (b : ℕ) (z : ℤ) → below (pos b +ℤ pos 2 *ℤ z) ≡ 2 * below z - (b + 2 * above z)
unfolding above below
below_more b (pos n) = omega arith
below_more b (negsuc n) = below_diff b (2 * suc n) ∙ omega arith

-- a number is the difference of its parts, and a sum the difference of sums of parts
pub parts : (z : ℤ) → z ≡ pos (above z) -ℤ pos (below z)
unfolding above below
parts (pos n) = sym (+ℤ_idr (pos n))
parts (negsuc n) = sym (+ℤ_idl (negsuc n))

pub add_diffs : (a b c d : ℕ) → (pos a -ℤ pos b) +ℤ (pos c -ℤ pos d) ≡ pos (a + c) -ℤ pos (b + d)
add_diffs a b c d =
    +ℤ_assoc (pos a) (neg_ℤ (pos b)) (pos c -ℤ pos d)
    ∙ ap (λ (z : ℤ). pos a +ℤ z) (sym (+ℤ_assoc (neg_ℤ (pos b)) (pos c) (neg_ℤ (pos d))) ∙ ap (λ (z : ℤ). z +ℤ neg_ℤ (pos d)) (+ℤ_comm (neg_ℤ (pos b)) (pos c)) ∙ +ℤ_assoc (pos c) (neg_ℤ (pos b)) (neg_ℤ (pos d)))
    ∙ sym (+ℤ_assoc (pos a) (pos c) (neg_ℤ (pos b) +ℤ neg_ℤ (pos d)))
    ∙ ap₂ (λ (y z : ℤ). y +ℤ z) (pos-+ℤ-pos a c) (sym (neg_ℤ-+ℤ (pos b) (pos d)) ∙ ap neg_ℤ (pos-+ℤ-pos b d))

pub add_parts : (y z : ℤ) → y +ℤ z ≡ pos (above y + above z) -ℤ pos (below y + below z)
add_parts y z = ap₂ (λ (a b : ℤ). a +ℤ b) (parts y) (parts z) ∙ add_diffs (above y) (below y) (above z) (below z)
