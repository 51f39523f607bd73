-- An amount by its sign and size: zero has no sign, the sizes multiply, and what a row's columns hold bounds what it exerts.
use mathlib.Core.Path.{◌≡◌, refl, sym, ◌∙◌, ap}
use mathlib.Core.Bool.{Bool, true, false, not, ◌&&◌}
use Prim.Native.Nat.{ℕ, zero, suc, ◌*◌}
use native.Mathlib.Omega.{arith}
use native.Mathlib.Nat.{zero-mul}
use borrow.Author.Tests.{eqb-true}
use lib.Dec.{eqb}
use lib.IntN.{ℤ, pos, negsuc, neg_ℤ, nat_abs, ◌*ℤ◌}
use Rattle.fields.specs.declared.Entry.{Entry}
use Rattle.kinds.specs.ranges.Range.{value}
use Rattle.arithmetic.specs.signed.Whole.{signed, amount}

pub amount_is : (minus : Bool) (size : ℕ) → record { minus = minus && not (eqb size 0); size = size } ≡ amount (signed minus size)
unfolding signed amount
amount_is true zero = refl
amount_is true (suc size) = rw (eqb_suc size)
  where
    eqb_suc : (n : ℕ) → eqb (suc n) 0 ≡ false
    eqb_suc n = from (eqb (suc n) 0) (eqb-true (suc n) 0)
      where
        from : (r : Bool) → (r ≡ true → suc n ≡ 0) → r ≡ false
        from true f = let e = f refl in absurd (omega arith)
        from false f = refl
amount_is false size = refl

-- a product with a number that is not below zero
pub signed_times : (minus : Bool) (m n : ℕ) → signed minus (m * n) ≡ signed minus m *ℤ pos n
unfolding signed
signed_times true zero n = ap (λ (k : ℕ). neg_ℤ (pos k)) (zero-mul n) ∙ sym (ap pos (zero-mul n))
signed_times true (suc m) n = refl
signed_times false m n = refl

pub plain_value : (e : Entry) → e.minus ≡ false → value e ≡ pos e.size
unfolding signed
plain_value e h = rw h

-- the size of an amount
pub amount_size : (z : ℤ) → (amount z).size ≡ nat_abs z
unfolding amount
amount_size (pos n) = refl
amount_size (negsuc n) = refl

pub value_size : (e : Entry) → nat_abs (value e) ≡ e.size
unfolding signed
value_size e = go e.minus e.size
  where
    go : (m : Bool) (n : ℕ) → nat_abs (signed m n) ≡ n
    go true zero = refl
    go true (suc n) = refl
    go false n = refl

pub product_size : (y z : ℤ) → nat_abs (y *ℤ z) ≡ nat_abs y * nat_abs z
product_size (pos a) (pos b) = refl
product_size (pos a) (negsuc b) = go (a * suc b)
  where
    go : (n : ℕ) → nat_abs (neg_ℤ (pos n)) ≡ n
    go zero = refl
    go (suc n) = refl
product_size (negsuc a) (pos b) = go (suc a * b)
  where
    go : (n : ℕ) → nat_abs (neg_ℤ (pos n)) ≡ n
    go zero = refl
    go (suc n) = refl
product_size (negsuc a) (negsuc b) = refl
