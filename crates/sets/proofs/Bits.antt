-- A set's bits as a loop reads them, by halving, and the bits of a set that has one row more.
use mathlib.Core.Path.{◌≡◌, refl, sym, ◌∙◌, ap, subst}
use Prim.Native.Nat.{ℕ, zero, suc, ◌+◌, ◌*◌, ◌-◌, ◌/◌, ◌%◌, ◌^◌, ◌≤◌, ◌<◌}
use native.Mathlib.Omega.{arith}
use native.Mathlib.Numerals.{add-one, one-add}
use native.Mathlib.Nat.{add-div_right, add-mod_right, div-lt_iff_lt-mul, div-eq_of_lt, le_antisymm, one-mul, pow-suc}
use lib.Pow.{shr-shr, field, mod-mod-pow, pow_pos}
use lib.Dec.{lit<}
use Rattle.sets.specs.Sets.{bit}

pub bit_two : (s i : ℕ) → bit s i < 2
unfolding bit
bit_two s i = omega arith

pub bit_not_one : (s i : ℕ) → (bit s i ≡ 1 → ⊥) → bit s i ≡ 0
bit_not_one s i n = omega (arith, bit_two s i)

-- what a loop that halves the set holds at row i
pub bit_is : (s i rest : ℕ) → rest ≡ s / 2 ^ i → rest % 2 ≡ bit s i
unfolding bit
bit_is s i rest e = ap (λ (x : ℕ). x % 2) e

pub next_bits : (s i rest : ℕ) → rest ≡ s / 2 ^ i → rest / 2 ≡ s / 2 ^ (i + 1)
next_bits s i rest e = ap (λ (x : ℕ). x / 2) e ∙ shr-shr s i 1

pub next_place : (i place : ℕ) → place ≡ 2 ^ i → 2 * place ≡ 2 ^ (i + 1)
next_place i place e = rw (add-one, pow-suc 2 i) (omega arith)

-- past the last row nothing is left exactly where the set has no row there
pub no_rest : (s n i rest : ℕ) → i ≤ n → n ≤ i → rest ≡ s / 2 ^ i → rest ≡ 0 → s < 2 ^ n
no_rest s n i rest p q e z =
    let m : i ≡ n = le_antisymm p q in
    let h : s / 2 ^ n < 1 = rw (← m, ← e, z) (lit< tt) in
    simp one-mul at ((div-lt_iff_lt-mul (pow_pos n)).0 h)

pub no_bits_left : (s n i rest : ℕ) → i ≤ n → n ≤ i → rest ≡ s / 2 ^ i → s < 2 ^ n → rest ≡ 0
no_bits_left s n i rest p q e h = let m : i ≡ n = le_antisymm p q in e ∙ rw m (div-eq_of_lt h)

-- ---- by halving
pub half_part : (s j : ℕ) → s / 2 ^ suc j ≡ s / 2 / 2 ^ j
half_part s j = sym (shr-shr s 1 j ∙ ap (λ (x : ℕ). s / 2 ^ x) (one-add j))

pub half_bit : (s j : ℕ) → bit s (suc j) ≡ bit (s / 2) j
unfolding bit
half_bit s j = ap (λ (x : ℕ). x % 2) (half_part s j)

pub first_bit : (s : ℕ) → bit s 0 ≡ s % 2
unfolding bit
first_bit s = omega arith

-- ---- one row more
half_added : (s j : ℕ) → (s + 2 ^ suc j) / 2 ≡ s / 2 + 2 ^ j
half_added s j = omega (arith, pow-suc 2 j)

-- row j added to a set that has it not: its own bit, the others, and the set is one of as many rows
pub added_own : (s j : ℕ) → bit s j ≡ 0 → bit (s + 2 ^ j) j ≡ 1
unfolding bit
added_own s j e = let d : (s + 2 ^ j) / 2 ^ j ≡ s / 2 ^ j + 1 = add-div_right s (pow_pos j) in omega (arith, e)

pub added_others : (s i j : ℕ) → bit s j ≡ 0 → (i ≡ j → ⊥) → bit (s + 2 ^ j) i ≡ bit s i
added_others s zero zero e n = absurd (n refl)
added_others s zero (suc j) e n = first_bit (s + 2 ^ suc j) ∙ omega (arith, pow-suc 2 j) ∙ sym (first_bit s)
added_others s (suc i) zero e n =
    let same : (s + 1) / 2 ≡ s / 2 = omega (arith, e, first_bit s) in
    half_bit (s + 1) i ∙ ap (λ (x : ℕ). bit x i) same ∙ sym (half_bit s i)
added_others s (suc i) (suc j) e n =
    half_bit (s + 2 ^ suc j) i ∙ ap (λ (x : ℕ). bit x i) (half_added s j) ∙ added_others (s / 2) i j (sym (half_bit s j) ∙ e) (λ d. n (ap suc d)) ∙ sym (half_bit s i)

pub added_low : (s j n : ℕ) → j < n → s < 2 ^ n → bit s j ≡ 0 → s + 2 ^ j < 2 ^ n
added_low s j zero l h e = absurd (omega arith)
added_low s zero (suc n) l h e = omega (arith, e, first_bit s, pow-suc 2 n, pow_pos n)
added_low s (suc j) (suc n) l h e =
    omega (arith, pow-suc 2 n, pow-suc 2 j, added_low (s / 2) j n (omega arith) (omega (arith, pow-suc 2 n)) (sym (half_bit s j) ∙ e))

-- a set of the rows below i has none of the others
pub bit_above : (s i : ℕ) → s < 2 ^ i → bit s i ≡ 0
unfolding bit
bit_above s i h = ap (λ (x : ℕ). x % 2) (div-eq_of_lt h)

-- row i added to such a set: its own bit, and the bits below it
pub bit_own : (s i : ℕ) → s < 2 ^ i → bit (s + 2 ^ i) i ≡ 1
bit_own s i h = added_own s i (bit_above s i h)

bit_low : (s i j : ℕ) → i < j → bit s i ≡ s % 2 ^ j / 2 ^ i % 2
unfolding bit
bit_low s i j h =
    let e : j - i - 1 + 1 + i ≡ j = omega arith in
    subst (λ (x : ℕ). s / 2 ^ i % 2 ≡ s % 2 ^ x / 2 ^ i % 2) e
    (sym (ap (λ (x : ℕ). x % 2) (field s (j - i - 1 + 1) i) ∙ mod-mod-pow (s / 2 ^ i) (j - i - 1) 1))

pub bit_kept : (s i j : ℕ) → i < j → bit (s + 2 ^ j) i ≡ bit s i
bit_kept s i j h = bit_low (s + 2 ^ j) i j h ∙ ap (λ (x : ℕ). x / 2 ^ i % 2) (add-mod_right s (2 ^ j)) ∙ sym (bit_low s i j h)
