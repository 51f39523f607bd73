-- Carried sums: what is carried to a neighbour is what its own sums give, and each number is read back exactly.
use Rattle.std.proofs.Common.{◌≡◌, ℕ, ◌+◌, ◌-◌, ◌%◌, ◌^◌, ◌<◌, ◌≤◌, sym, ap, ◌∙◌, arith, le-ltb, lt-ltb}
use native.Mathlib.Nat.{add-mod, add-mod_right}
use native.Mathlib.Decide.{dec_lt}
use Rattle.arithmetic.proofs.Cases.{by_cases}
use Rattle.sums.specs.declared.Balance.{Balance}
use Rattle.sums.specs.declared.Sums.{Sums}
use Rattle.sums.specs.declared.carried.Carried.{Carried}
use Rattle.sums.specs.steps.Sums.{zero_sums, add, parts_sum, balance_sum, Room}
use Rattle.sums.specs.steps.Carried.{wrapped, key_of, balance_shift, shift_of, balance_moved, moved, over_zero, from_zero}
use Rattle.sums.proofs.Adding.{same_balance}

-- ---- equal carried sums
pub record SameCarried (a b : Carried) : Type 0 where
  pub n : a.n ≡ b.n
  pub h : a.h ≡ b.h
  pub m : a.m ≡ b.m
  pub plus : a.plus ≡ b.plus
  pub minus : a.minus ≡ b.minus
  pub key : a.key ≡ b.key

pub same_carried : {a b : Carried} → SameCarried a b → a ≡ b
same_carried e = λ i. record { n = e.n i; h = e.h i; m = e.m i; plus = e.plus i; minus = e.minus i; key = e.key i }

-- ---- one number
-- the answer of `wrapping_sub_u64`
pub wrap_is : (a b r : ℕ) → a < 2 ^ 64 → b < 2 ^ 64 → r < 2 ^ 64 → (r + b) % 2 ^ 64 ≡ a → r ≡ wrapped a b
unfolding wrapped
wrap_is a b r p q l e = omega arith

-- two differences together, by whatever numbers they are told
wrap_moves : (a b c d x y : ℕ) → b ≤ 2 ^ 64 → d ≤ 2 ^ 64 → y ≤ 2 ^ 64 → a + c + y ≡ x + b + d → (wrapped a b + wrapped c d) % 2 ^ 64 ≡ wrapped x y
unfolding wrapped
wrap_moves a b c d x y p q r e =
    let l : (a + (2 ^ 64 - b)) + (c + (2 ^ 64 - d)) ≡ (x + (2 ^ 64 - y)) + 2 ^ 64 = omega arith in
    sym (add-mod (a + (2 ^ 64 - b)) (c + (2 ^ 64 - d)) (2 ^ 64)) ∙ ap (λ (k : ℕ). k % 2 ^ 64) l ∙ add-mod_right (x + (2 ^ 64 - y)) (2 ^ 64)

pub wrap_whole : (a : ℕ) → a < 2 ^ 64 → wrapped a 0 ≡ a
unfolding wrapped
wrap_whole a h = omega arith

-- ---- a row added, and a row taken away
module _ (a r : Balance) (x : a.resisting + r.resisting ≤ 2 ^ 60) (y : a.overturning + r.overturning ≤ 2 ^ 60) where
  balance_added : balance_moved (balance_shift a zero_sums.plus) (balance_shift r zero_sums.plus) ≡ balance_shift (balance_sum a r) zero_sums.plus
  unfolding balance_moved balance_shift balance_sum zero_sums
  balance_added =
      same_balance (wrap_moves a.resisting 0 r.resisting 0 (a.resisting + r.resisting) 0 (omega arith) (omega arith) (omega arith) (omega arith))
      (wrap_moves a.overturning 0 r.overturning 0 (a.overturning + r.overturning) 0 (omega arith) (omega arith) (omega arith) (omega arith))

  balance_taken : balance_moved (balance_shift (balance_sum a r) zero_sums.plus) (balance_shift zero_sums.plus r) ≡ balance_shift a zero_sums.plus
  unfolding balance_moved balance_shift balance_sum zero_sums
  balance_taken =
      same_balance (wrap_moves (a.resisting + r.resisting) 0 0 r.resisting a.resisting 0 (omega arith) (omega arith) (omega arith) (omega arith))
      (wrap_moves (a.overturning + r.overturning) 0 0 r.overturning a.overturning 0 (omega arith) (omega arith) (omega arith) (omega arith))

module _ (a r : Sums) (p : Room 16 a) (q : Room 16 r) where
  pub row_added : moved (shift_of a zero_sums) (shift_of r zero_sums) ≡ shift_of (add a r) zero_sums
  unfolding moved shift_of add parts_sum key_of zero_sums
  row_added =
      same_carried (record {
        n = wrap_moves _ _ _ _ _ _ (omega arith) (omega arith) (omega arith) (omega arith);
        h = wrap_moves _ _ _ _ _ _ (omega arith) (omega arith) (omega arith) (omega arith);
        m = wrap_moves _ _ _ _ _ _ (omega arith) (omega arith) (omega arith) (omega arith);
        plus = balance_added a.plus r.plus (omega arith) (omega arith);
        minus = balance_added a.minus r.minus (omega arith) (omega arith);
        key = wrap_moves _ _ _ _ _ _ (omega arith) (omega arith) (omega arith) (omega arith);
      })

  pub row_taken : moved (shift_of (add a r) zero_sums) (shift_of zero_sums r) ≡ shift_of a zero_sums
  unfolding moved shift_of add parts_sum key_of zero_sums
  row_taken =
      same_carried (record {
        n = wrap_moves _ _ _ _ _ _ (omega arith) (omega arith) (omega arith) (omega arith);
        h = wrap_moves _ _ _ _ _ _ (omega arith) (omega arith) (omega arith) (omega arith);
        m = wrap_moves _ _ _ _ _ _ (omega arith) (omega arith) (omega arith) (omega arith);
        plus = balance_taken a.plus r.plus (omega arith) (omega arith);
        minus = balance_taken a.minus r.minus (omega arith) (omega arith);
        key = wrap_moves _ _ _ _ _ _ (omega arith) (omega arith) (omega arith) (omega arith);
      })

-- ---- read back
pub over_low : (x : ℕ) → x < 2 ^ 63 → over_zero x ≡ x
unfolding over_zero
over_low x h = rw (lt-ltb x (2 ^ 63) h)

pub over_high : (x : ℕ) → 2 ^ 63 ≤ x → over_zero x ≡ 0
unfolding over_zero
over_high x h = rw (le-ltb x (2 ^ 63) h)

pub distance_low : (x : ℕ) → x < 2 ^ 63 → from_zero x ≡ x
unfolding from_zero
distance_low x h = rw (lt-ltb x (2 ^ 63) h)

pub distance_high : (x : ℕ) → 2 ^ 63 ≤ x → from_zero x ≡ 2 ^ 64 - x
unfolding from_zero
distance_high x h = rw (le-ltb x (2 ^ 63) h)

module _ (a b : ℕ) (p : a ≤ 2 ^ 60) (q : b ≤ 2 ^ 60) where
  pub over_wrap : over_zero (wrapped a b) ≡ a - b
  unfolding wrapped
  over_wrap =
      by_cases (dec_lt (wrapped a b) (2 ^ 63)) (λ h. over_low (wrapped a b) h ∙ omega arith) (λ h. over_high (wrapped a b) (omega arith) ∙ omega arith)

  pub distance_wrap : from_zero (wrapped a b) ≡ (a - b) + (b - a)
  unfolding wrapped
  distance_wrap =
      by_cases (dec_lt (wrapped a b) (2 ^ 63)) (λ h. distance_low (wrapped a b) h ∙ omega arith) (λ h. distance_high (wrapped a b) (omega arith) ∙ omega arith)
