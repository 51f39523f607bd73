-- The laws of the least number with a property: there is one at most, a number that reaches a bound and whose predecessor does not is the least,
-- and a quotient rounded up and down by division is the least and the greatest.
use mathlib.Core.Path.{◌≡◌}
use mathlib.Core.Bool.{Bool, true}
use Prim.Native.Nat.{ℕ, zero, suc, ◌+◌, ◌*◌, ◌/◌, ◌%◌, ◌≤◌, ◌<◌, zero-le}
use native.Mathlib.Nat.{le_trans, le_of_lt, le_antisymm, le_of_suc-le-suc, lt_of_le_of_lt, lt_of_lt_of_le, lt_of_not-le, lt_irrefl, le_of_mul-le-mul_right, lt_of_mul-lt-mul_right, div-add-mod', lt-div-mul-add, div-mul-le_self, add-mul, one-mul, pos_of_ne-zero, le-mul_of_pos_right}
use native.Mathlib.Numerals.{add-one-le}
use native.Mathlib.Decide.{dec_le, ℕ_discrete}
use native.Mathlib.Omega.{arith}
use lib.Dec.{T, leb, ltb, leb→le, ltb→lt}
use Rattle.arithmetic.proofs.Cases.{by_cases}
use Rattle.arithmetic.specs.rounding.Least.{Least, Greatest, RoundedUp, RoundedDown}

-- there is one least number, and one greatest
pub least_one : {P : ℕ → Type 0} {m n : ℕ} → Least P m → Least P n → m ≡ n
least_one {m = m} {n = n} p q = le_antisymm (p.least n q.holds) (q.least m p.holds)

pub greatest_one : {P : ℕ → Type 0} {m n : ℕ} → Greatest P m → Greatest P n → m ≡ n
greatest_one {m = m} {n = n} p q = le_antisymm (q.greatest m p.holds) (p.greatest n q.holds)

-- the least number whose value under f reaches a, where f never falls
abbrev pub Rises : (ℕ → ℕ) → Type 0
Rises f = (m n : ℕ) → m ≤ n → f m ≤ f n

pub least_of : (f : ℕ → ℕ) (a n : ℕ) → a ≤ f n → ((m : ℕ) → a ≤ f m → m < n → ⊥) → Least (λ m. a ≤ f m) n
least_of f a n h below = record { holds = h; least = λ m p. by_cases (dec_le n m) (λ l. l) (λ l. absurd (below m p (lt_of_not-le l))) }

-- The test that antt computes: n reaches a, and the number before it, if there is one, does not.
abbrev pub before : (ℕ → ℕ) → ℕ → ℕ → Bool
before f a zero = true
before f a (suc n) = ltb (f n) a

pub least_zero : (f : ℕ → ℕ) (a : ℕ) → a ≤ f zero → Least (λ m. a ≤ f m) zero
least_zero f a h = record { holds = h; least = λ m p. zero-le }

pub least_suc : (f : ℕ → ℕ) → Rises f → (a n : ℕ) → a ≤ f (suc n) → f n < a → Least (λ m. a ≤ f m) (suc n)
least_suc f rises a n h l =
    least_of f a (suc n) h (λ m p k. lt_irrefl a (lt_of_le_of_lt p (lt_of_le_of_lt (rises m n (le_of_suc-le-suc k)) l)))

pub least_by : (f : ℕ → ℕ) → Rises f → (a n : ℕ) → T (leb a (f n)) → T (before f a n) → Least (λ m. a ≤ f m) n
least_by f rises a zero t u = least_zero f a (leb→le a (f zero) t)
least_by f rises a (suc n) t u = least_suc f rises a n (leb→le a (f (suc n)) t) (ltb→lt (f n) a u)

-- division rounds down, and up where it leaves nothing
module _ (a b : ℕ) (pos : 0 < b) where
  pub next : a < (a / b + 1) * b
  next = rw (add-mul, one-mul) (lt-div-mul-add pos)

  pub down_div : RoundedDown a b (a / b)
  down_div = record {
    holds = div-mul-le_self a b;
    greatest = λ m p. let l : m < a / b + 1 = lt_of_mul-lt-mul_right b (lt_of_le_of_lt p next) in omega arith;
  }

  pub up_exact : a % b ≡ 0 → RoundedUp a b (a / b)
  up_exact e = record {
    holds = omega (arith, div-add-mod' a b);
    least = λ m p. le_of_mul-le-mul_right (le_trans (div-mul-le_self a b) p) pos;
  }

  -- where it leaves something, the quotient's multiple is below a
  pub short : (a % b ≡ 0 → ⊥) → a / b * b < a
  short e = omega (arith, div-add-mod' a b, pos_of_ne-zero e)

  pub up_more : (a % b ≡ 0 → ⊥) → RoundedUp a b (a / b + 1)
  up_more e = record {
    holds = le_of_lt next;
    least = λ m p. add-one-le (lt_of_mul-lt-mul_right b (lt_of_lt_of_le (short e) p));
  }

  -- a quotient rounded up there always is
  pub up_some : (c : ℕ) × RoundedUp a b c
  up_some = by_cases (ℕ_discrete (a % b) 0) (λ e. (a / b, up_exact e)) (λ e. (a / b + 1, up_more e))

  pub up_fits : (a % b ≡ 0 → ⊥) → a / b + 1 ≤ a
  up_fits e = add-one-le (lt_of_le_of_lt (le-mul_of_pos_right (a / b) pos) (short e))

-- a quotient is no larger than what is divided
pub down_le : {a b c : ℕ} → 0 < b → RoundedDown a b c → c ≤ a
down_le {c = c} pos r = le_trans (le-mul_of_pos_right c pos) r.holds

pub up_le : {a b c : ℕ} → 0 < b → RoundedUp a b c → c ≤ a
up_le {a} pos r = r.least a (le-mul_of_pos_right a pos)
