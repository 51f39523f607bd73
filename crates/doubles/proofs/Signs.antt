-- A sign and a size as one whole number: its size, the amount that stands for it, and the product of two.
use mathlib.Core.Path.{◌≡◌, refl, sym, ap, ◌∙◌}
use mathlib.Core.Bool.{Bool, true, false}
use Prim.Native.Nat.{ℕ, zero, suc, ◌*◌, ◌<◌}
use native.Mathlib.Nat.{lt_irrefl}
use lib.IntN.{ℤ, pos, negsuc, neg_ℤ, nat_abs, ◌*ℤ◌, neg_ℤ-neg_ℤ, zero-*ℤ, *ℤ_comm}
use lib.Ieee.{unlike}
use Rattle.arithmetic.specs.signed.Whole.{signed, amount}

pub size_signed : (s : Bool) (n : ℕ) → nat_abs (signed s n) ≡ n
unfolding signed
size_signed true zero = refl
size_signed true (suc n) = refl
size_signed false n = refl

pub signed_none : (s : Bool) → signed s 0 ≡ pos 0
unfolding signed
signed_none true = refl
signed_none false = refl

-- zero alone has an amount without its sign
pub amount_signed : (s : Bool) (n : ℕ) → 0 < n → record { minus = s; size = n } ≡ amount (signed s n)
unfolding amount signed
amount_signed true zero h = absurd (lt_irrefl 0 h)
amount_signed true (suc n) h = refl
amount_signed false n h = refl

neg_times : (y z : ℤ) → neg_ℤ y *ℤ z ≡ neg_ℤ (y *ℤ z)
neg_times (pos zero) z = zero-*ℤ z ∙ ap neg_ℤ (sym (zero-*ℤ z))
neg_times (pos (suc a)) (pos b) = refl
neg_times (pos (suc a)) (negsuc b) = sym (neg_ℤ-neg_ℤ (pos (suc a * suc b)))
neg_times (negsuc a) (pos b) = sym (neg_ℤ-neg_ℤ (pos (suc a * b)))
neg_times (negsuc a) (negsuc b) = refl

times_neg : (y z : ℤ) → y *ℤ neg_ℤ z ≡ neg_ℤ (y *ℤ z)
times_neg y z = *ℤ_comm y (neg_ℤ z) ∙ neg_times z y ∙ ap neg_ℤ (*ℤ_comm z y)

pub signed_product : (s t : Bool) (a b : ℕ) → signed s a *ℤ signed t b ≡ signed (unlike s t) (a * b)
unfolding signed
signed_product true true a b = neg_times (pos a) (neg_ℤ (pos b)) ∙ ap neg_ℤ (times_neg (pos a) (pos b)) ∙ neg_ℤ-neg_ℤ (pos (a * b))
signed_product true false a b = neg_times (pos a) (pos b)
signed_product false true a b = times_neg (pos a) (pos b)
signed_product false false a b = refl
