-- What `parts_of` and `product` answer: a number of either sign by what it is above and below zero.
use Rattle.std.specs.Prelude.{◌+◌, ◌*◌, ◌≤◌, ℤ}
use Rattle.arithmetic.specs.declared.signed.Parts.{Parts}
use Rattle.arithmetic.specs.signed.Whole.{above, below}

-- what a number is above and below zero
unfoldable pub parts_in : ℤ → Parts
parts_in z = record { above = above z; below = below z }

-- what a product is above and below zero, from the parts of its factors
unfoldable pub times : Parts → Parts → Parts
times p q = record { above = p.above * q.above + p.below * q.below; below = p.above * q.below + p.below * q.above }

-- factors whose products fit easily
pub record Small (p : Parts) : Type 0 where
  pub above : p.above ≤ 1000000
  pub below : p.below ≤ 1000000
