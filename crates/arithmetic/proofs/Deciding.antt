-- The laws by which callers use a yes-or-no answer.
use Prim.Native.Nat.{ℕ, ◌<◌, ◌≤◌}
use native.Mathlib.Omega.{arith}
use mathlib.Core.Logic.{◌⊎◌, inl, inr, ⊎_elim}
use mathlib.Core.Path.{◌≡◌, refl}
use mathlib.Core.Bool.{Bool, true, false, not, ◌&&◌, ◌||◌}
use lib.Dec.{ltb, leb, eqb}
use borrow.Author.Tests.{ltb-true, ltb-false, leb-true, leb-false, eqb-true, eqb-false}
use Rattle.arithmetic.specs.decides.Decides.{Decides}

-- no answer is both
pub not_both : {r : Bool} → r ≡ true → r ≡ false → ⊥
not_both p q = let z : ◌≡◌ {A = ℕ} 0 1 = cc in omega arith

pub decided : {P : Type 0} (r : Bool) → r ≡ true → Decides r P → P
decided true e h = h
decided false e h = absurd (not_both e refl)

pub refuted : {P : Type 0} (r : Bool) → r ≡ false → Decides r P → P → ⊥
refuted true e h p = not_both refl e
refuted false e h p = h p

-- what is a yes or a no, and is not refuted, holds
pub unrefuted : {P : Type 0} (r : Bool) → Decides r P → ((P → ⊥) → ⊥) → P
unrefuted true h n = h
unrefuted false h n = absurd (n h)

-- a yes-or-no promise has one answer
pub decides_one : (P : Type 0) (a b : Bool) → Decides a P → Decides b P → a ≡ b
decides_one P true true p q = refl
decides_one P true false p q = absurd (q p)
decides_one P false true p q = absurd (p q)
decides_one P false false p q = refl

-- the same answer for what holds exactly where P does
pub decides_same : {P Q : Type 0} (r : Bool) → (P → Q) → (Q → P) → Decides r P → Decides r Q
decides_same true f g p = f p
decides_same false f g n = λ q. n (g q)

-- the opposite answer for the opposite
pub decides_not : (P : Type 0) (r : Bool) → Decides r P → Decides (not r) (P → ⊥)
decides_not P true p = λ n. n p
decides_not P false n = n

-- two answers together
pub decides_both : (P Q : Type 0) (r t : Bool) → Decides r P → Decides t Q → Decides (r && t) (P × Q)
decides_both P Q true true p q = (p, q)
decides_both P Q true false p n = λ w. n w.1
decides_both P Q false t n q = λ w. n w.0

-- one of two answers, or both
pub decides_either : (P Q : Type 0) (r t : Bool) → Decides r P → Decides t Q → Decides (r || t) (P ⊎ Q)
decides_either P Q true t p q = inl p
decides_either P Q false true n q = inr q
decides_either P Q false false n m = λ w. ⊎_elim n m w

-- the tests of numbers
pub decides_below : (a b : ℕ) → Decides (ltb a b) (a < b)
decides_below a b = from (ltb a b) (ltb-true a b) (ltb-false a b)
  where
    from : (r : Bool) → (r ≡ true → a < b) → (r ≡ false → b ≤ a) → Decides r (a < b)
    from true f g = f refl
    from false f g = λ h. let k = g refl in omega arith

pub decides_at_most : (a b : ℕ) → Decides (leb a b) (a ≤ b)
decides_at_most a b = from (leb a b) (leb-true a b) (leb-false a b)
  where
    from : (r : Bool) → (r ≡ true → a ≤ b) → (r ≡ false → b < a) → Decides r (a ≤ b)
    from true f g = f refl
    from false f g = λ h. let k = g refl in omega arith

pub decides_equal : (a b : ℕ) → Decides (eqb a b) (a ≡ b)
decides_equal a b = from (eqb a b) (eqb-true a b) (eqb-false a b)
  where
    from : (r : Bool) → (r ≡ true → a ≡ b) → (r ≡ false → a ≡ b → ⊥) → Decides r (a ≡ b)
    from true f g = f refl
    from false f g = g refl

-- a flag says that it is set
pub decides_flag : (r : Bool) → Decides r (r ≡ true)
decides_flag true = refl
decides_flag false = λ e. not_both e refl
