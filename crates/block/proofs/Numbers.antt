-- The text of a number is the one numeral that document 01's reader takes for that number. By tenths.
use Prim.Native.Nat.{ℕ, zero, suc, ◌+◌, ◌*◌, ◌/◌, ◌%◌, ◌^◌, ◌≤◌, ◌<◌}
use mathlib.Core.Path.{◌≡◌, sym, ap, subst, ◌∙◌}
use mathlib.Core.List.{List, [], ◌∷◌, ◌++◌}
use native.Mathlib.Omega.{arith}
use native.Mathlib.Decide.{dec_lt}
use native.Mathlib.Nat.{pow-suc}
use lib.ListN.{length, length-append, get_or}
use borrow.Author.Tests.{lt-ltb, le-ltb}
use Rattle.fields.specs.digits.Numerals.{Numeral, one, more}
use Rattle.fields.proofs.digits.Numerals.{Digit, numeral_digit, numeral_some}
use Rattle.block.specs.Decimal.{last_digit, digits, decimal}

-- a number below ten, and one that is not
digits_small : (steps n : ℕ) → n < 10 → digits (suc steps) n ≡ last_digit n
unfolding digits
digits_small steps n h = simp (lt-ltb n 10 h)

digits_more : (steps n : ℕ) → 10 ≤ n → digits (suc steps) n ≡ digits steps (n / 10) ++ last_digit n
unfolding digits
digits_more steps n h = simp (le-ltb n 10 h)

-- more steps than the number change nothing
digits_enough : (j k n : ℕ) → n < j → n < k → digits j n ≡ digits k n
digits_enough zero k n h g = absurd (omega arith)
digits_enough (suc j) zero n h g = absurd (omega arith)
digits_enough (suc j) (suc k) n h g = elim (dec_lt n 10) [
  | yes p ↦ digits_small j n p ∙ sym (digits_small k n p)
  | no p ↦
      digits_more j n (omega arith)
      ∙ ap (λ (t : List ℕ). t ++ last_digit n) (digits_enough j k (n / 10) (omega arith) (omega arith))
      ∙ sym (digits_more k n (omega arith))
]

pub decimal_small : (n : ℕ) → n < 10 → decimal n ≡ last_digit n
unfolding decimal
decimal_small n h = digits_small n n h

pub decimal_more : (n : ℕ) → 10 ≤ n → decimal n ≡ decimal (n / 10) ++ last_digit n
unfolding decimal
decimal_more n h =
    digits_more n n h
    ∙ ap (λ (t : List ℕ). t ++ last_digit n) (digits_enough n (suc (n / 10)) (n / 10) (omega arith) (omega arith))

-- what holds of a number below ten, and of a number where it holds of a tenth of it, holds of every number
by_tenths : (P : ℕ → Type 0) → ((n : ℕ) → n < 10 → P n) → ((n : ℕ) → 10 ≤ n → P (n / 10) → P n) → (n : ℕ) → P n
by_tenths P small large n = go (suc n) n (omega arith)
  where
    go : (k n : ℕ) → n < k → P n
    go zero n h = absurd (omega arith)
    go (suc k) n h = elim (dec_lt n 10) [ yes p ↦ small n p | no p ↦ large n (omega arith) (go k (n / 10) (omega arith)) ]

-- the reader takes the text of n for n
pub decimal_numeral : (n : ℕ) → Numeral (decimal n) n
decimal_numeral = by_tenths (λ n. Numeral (decimal n) n)
    (λ n h.
    let e : n % 10 ≡ n = omega arith in
    rw (decimal_small n h, e) (one {d = n} (omega arith)))
    (λ n h tenth.
    let e : 10 * (n / 10) + n % 10 ≡ n = omega arith in
    subst (Numeral (decimal n)) e (rw (decimal_more n h) (more {n = n / 10} {d = n % 10} (omega arith) tenth (omega arith))))

-- and no other text
pub decimal_only : {s : List ℕ} {n : ℕ} → Numeral s n → s ≡ decimal n
decimal_only (one {d} h) =
    let e : d % 10 ≡ d = omega arith in
    sym (decimal_small d (omega arith) ∙ ap (λ (x : ℕ). (0x30 + x) ∷ []) e)
decimal_only (more {s} {n} {d} some front h) =
    let q : (10 * n + d) / 10 ≡ n = omega arith in
    let r : (10 * n + d) % 10 ≡ d = omega arith in
    rw (decimal_more (10 * n + d) (omega arith), q, r) (ap (λ (t : List ℕ). t ++ ((0x30 + d) ∷ [])) (decimal_only front))

-- every byte of it is a digit, and there is one at least
pub decimal_plain : (n k : ℕ) → k < length (decimal n) → Digit (get_or (decimal n) k 0)
decimal_plain n k h = numeral_digit (decimal_numeral n) k h

pub decimal_some : (n : ℕ) → 1 ≤ length (decimal n)
decimal_some n = numeral_some (decimal_numeral n)

-- a number below 10 ^ (k + 1) takes at most k + 1 digits
pub decimal_length : (k n : ℕ) → n < 10 ^ suc k → length (decimal n) ≤ suc k
decimal_length zero n h = rw (decimal_small n h) (omega arith)
decimal_length (suc k) n h = elim (dec_lt n 10) [
  | yes p ↦ rw (decimal_small n p) (omega arith)
  | no p ↦
      rw (decimal_more n (omega arith), length-append)
      (omega (arith, decimal_length k (n / 10) (omega (arith, rw (pow-suc 10 (suc k)) at h))))
]
