-- Levels as whole numbers, and how the code keeps them natural: what each is above zero and below it is added up on two sides,
-- and the difference of the sides is the whole number, by its sign and size.
use mathlib.Core.Path.{◌≡◌, refl, sym, ap, ◌∙◌}
use mathlib.Core.Bool.{Bool, true, false}
use Prim.Native.Nat.{ℕ, ◌+◌, ◌≤◌}
use native.Mathlib.Nat.{add-zero}
use native.Mathlib.Omega.{arith}
use lib.IntN.{ℤ, pos, neg_ℤ, ◌-ℤ◌, +ℤ_idl}
use Rattle.arithmetic.specs.declared.signed.Amount.{Amount}
use Rattle.arithmetic.specs.declared.signed.Parts.{Parts}
use Rattle.arithmetic.specs.signed.Whole.{worth, above, below}
use Rattle.arithmetic.specs.signed.Parts.{parts_in}
use Rattle.arithmetic.proofs.signed.Laws.{above_size, below_size, above_neg, below_neg, add_parts, add_diffs}
use Rattle.fields.specs.declared.Entry.{Entry}
use Rattle.kinds.specs.ranges.Range.{Around}

-- a level in its range is at most 9,000,000 from zero
pub level_most : (e : Entry) → Around 500000 9000000 e → e.size ≤ 9000000
level_most e r = by_sign e.minus r.under r.over
  where
    by_sign : (minus : Bool) → (minus ≡ true → e.size ≤ 500000) → (minus ≡ false → e.size ≤ 9000000) → e.size ≤ 9000000
    by_sign true under over = omega (arith, under refl)
    by_sign false under over = over refl

-- and so are its parts, so that two of them and an afflux fit a word
pub part_most : (a : Amount) {p : Parts} → a.size ≤ 9000000 → p ≡ parts_in (worth a) → (p.above ≤ 9000000) × (p.below ≤ 9000000)
unfolding parts_in
part_most a h q = rw q (omega (arith, above_size a), omega (arith, below_size a))

-- two numbers and a height: what is above zero on one side, what is below on the other
sides : (y z : ℤ) (h : ℕ) → pos (above y + below z) -ℤ pos (below y + above z + h) ≡ y -ℤ z -ℤ pos h
sides y z h =
    let apart : y -ℤ z ≡ pos (above y + below z) -ℤ pos (below y + above z) = rw (sym (above_neg z), sym (below_neg z)) (add_parts y (neg_ℤ z)) in
    let down : neg_ℤ (pos h) ≡ pos 0 -ℤ pos h = sym (+ℤ_idl (neg_ℤ (pos h))) in
    sym (rw (apart, down) (add_diffs (above y + below z) (below y + above z) 0 h ∙ ap (λ (n : ℕ). pos n -ℤ pos (below y + above z + h)) (add-zero (above y + below z))))

pub between_levels : (upper lower : Amount) (h : ℕ) {p q : Parts} → p ≡ parts_in (worth upper) → q ≡ parts_in (worth lower)
    → pos (p.above + q.below) -ℤ pos (p.below + q.above + h) ≡ worth upper -ℤ worth lower -ℤ pos h
unfolding parts_in
between_levels upper lower h e f = rw (e, f) (sides (worth upper) (worth lower) h)
