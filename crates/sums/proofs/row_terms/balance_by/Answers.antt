-- How far each of B + 2·away and 2·toward is past the other makes the arm. V on it adds at most 2·10¹² to either side, by the law of small products, and the twist at most 6·10⁹; so all of it fits.
use Rattle.std.proofs.Common.{◌≡◌, ℕ, ◌+◌, ◌-◌, ◌*◌, ◌≤◌, arith}
use Rattle.arithmetic.specs.declared.signed.Parts.{Parts}
use Rattle.arithmetic.specs.signed.Parts.{Small, times}
use Rattle.arithmetic.proofs.signed.Laws.{times_low}
use Rattle.sums.proofs.row_terms.balance_by.Goals as goal

low : (v arm turned : Parts) (width toward away : ℕ) → Small v → (width ≤ 30000) × (toward ≤ 32000) × (away ≤ 32000) → arm.above ≡ (width + 2 * away) - 2 * toward → arm.below ≡ 2 * toward - (width + 2 * away)
    → turned ≡ times v arm → (turned.above ≤ 2000000000000) × (turned.below ≤ 2000000000000)
low v arm turned width toward away s w a b e = times_low v arm s (record { above = omega arith; below = omega arith }) e

pub overflow_add-result : goal.overflow_add-result
overflow_add-result c = omega (arith, low _ _ _ _ _ _ c.requires.small c.requires.width_bound c.excess.ensures c.excess-2.ensures c.mul-turned.ensures)

pub overflow_add-result-2 : goal.overflow_add-result-2
overflow_add-result-2 c = omega (arith, low _ _ _ _ _ _ c.requires.small c.requires.width_bound c.excess.ensures c.excess-2.ensures c.mul-turned.ensures)
