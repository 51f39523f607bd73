-- A C row is told one thing, and so is given one answer.
use mathlib.Core.Path.{◌≡◌, refl, sym, ap, ◌∙◌}
use Prim.Native.Nat.{ℕ, ◌≤◌}
use native.Mathlib.Omega.{arith}
use lib.IntN.{pos, ◌-ℤ◌}
use mathlib.Core.Bool.{Bool, true, false, not, ◌&&◌}
use lib.Dec.{leb}
use Rattle.arithmetic.specs.decides.Decides.{Decides}
use Rattle.arithmetic.proofs.Deciding.{decides_same, decides_both, decides_at_most}
use Rattle.arithmetic.specs.signed.Whole.{worth, amount}
use Rattle.arithmetic.specs.declared.signed.Amount.{Amount}
use Rattle.arithmetic.proofs.Cases.{impossible}
use Rattle.arithmetic.proofs.rounding.Laws.{least_one}
use Rattle.arithmetic.proofs.rounding.Exactness.{rounding_one}
use Rattle.kinds.specs.declared.Numbers.{Numbers}
use Rattle.clearance.proofs.afflux.Rules.{clearance_needed_one}
use Rattle.clearance.specs.ClearanceRow.{clearance_told, ClearanceSays, out_of_range, in_range}
use Rattle.clearance.specs.Clear.{ClearanceTold, Cleared, over_obstructed, clear, AtLeast}
use Rattle.clearance.specs.declared.Opening.{Opening}
use Rattle.std.proofs.Common.{Result}
use Rattle.clearance.specs.declared.VerticalClearance.{VerticalClearance}
use Rattle.clearance.specs.declared.ClearanceRefusal.{ClearanceRefusal}
use Rattle.clearance.proofs.ClearanceRow.{clearance_told_one}

module _ {row : Opening} {Q : ℕ} where
  pub cleared_one : {t u : ClearanceTold} → Cleared row Q t → Cleared row Q u → t ≡ u
  cleared_one (over_obstructed h) (over_obstructed k) = refl
  cleared_one (over_obstructed h) (clear k l e n) = absurd (omega arith)
  cleared_one (clear h l d m) (over_obstructed k) = absurd (omega arith)
  cleared_one (clear {clearance = y} h l d m) (clear {clearance = z} k o e n) =
      let afflux = rounding_one least_one l o in
      let same : y ≡ z = d ∙ ap (λ (h : ℕ). amount (worth row.underside -ℤ worth row.flood -ℤ pos h)) afflux.0 ∙ sym e in
      let needed = clearance_needed_one m n in
      let exact = afflux.1 in
      cc

pub clearance_says_one : {row : Numbers} {Q : ℕ} {t u : ClearanceTold} → ClearanceSays row Q t → ClearanceSays row Q u → t ≡ u
clearance_says_one (out_of_range h) (out_of_range k) = refl
clearance_says_one (out_of_range h) (in_range r s) = absurd (h r)
clearance_says_one (in_range r s) (out_of_range h) = absurd (h r)
clearance_says_one (in_range p s) (in_range q t) = cleared_one s t

-- no second answer meets the promise of `clearance`
pub clearance_one : (row : Numbers) (Q : ℕ) (r s : Result VerticalClearance ClearanceRefusal) → ClearanceSays row Q (clearance_told r) → ClearanceSays row Q (clearance_told s) → r ≡ s
clearance_one row Q r s u v = clearance_told_one r s (clearance_says_one u v)

-- a clearance below zero is never enough, whatever its size; of any other the sizes decide
pub at_least_decides : (clearance : Amount) (needed : ℕ) → Decides (not clearance.minus && leb needed clearance.size) (AtLeast clearance needed)
at_least_decides a needed =
    decides_same {P = (a.minus ≡ false) × (needed ≤ a.size)} {Q = AtLeast a needed} (not a.minus && leb needed a.size)
    (λ w. record { plain = w.0; enough = w.1 }) (λ w. (w.plain, w.enough))
    (decides_both (a.minus ≡ false) (needed ≤ a.size) (not a.minus) (leb needed a.size) (plain a.minus) (decides_at_most needed a.size))
  where
    plain : (minus : Bool) → Decides (not minus) (minus ≡ false)
    plain true = λ e. impossible cc
    plain false = refl
