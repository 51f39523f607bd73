-- Whole numbers of either sign: the number that an amount stands for, and what a number is above and below zero.
use Rattle.std.specs.Prelude.{Bool, true, false, ℕ, suc, ℤ, pos, negsuc, neg_ℤ}
use Rattle.arithmetic.specs.declared.signed.Amount.{Amount}

-- the number of this size, below zero or not
unfoldable pub signed : Bool → ℕ → ℤ
signed true n = neg_ℤ (pos n)
signed false n = pos n

-- the number that an amount stands for
unfoldable pub worth : Amount → ℤ
unfolding signed
worth a = signed a.minus a.size

-- the amount that stands for a number; zero has no sign
unfoldable pub amount : ℤ → Amount
amount (pos n) = record { minus = false; size = n }
amount (negsuc n) = record { minus = true; size = suc n }

-- what a number is above zero, and what it is below zero
unfoldable pub above : ℤ → ℕ
above (pos n) = n
above (negsuc n) = 0

unfoldable pub below : ℤ → ℕ
below (pos n) = 0
below (negsuc n) = suc n
