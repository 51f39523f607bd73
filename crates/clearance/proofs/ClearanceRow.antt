-- What a C row is told determines the answer, since it can be taken back to it.
use mathlib.Core.Path.{◌≡◌, refl, sym, ap, ◌∙◌}
use mathlib.Core.Bool.{cond}
use lib.Dec.{eqb}
use Rattle.clearance.specs.ClearanceRow.{clearance_told}
use Rattle.clearance.specs.Clear.{ClearanceTold, refused, given}
use Rattle.std.proofs.Common.{Result, Ok, Err}
use Rattle.clearance.specs.declared.VerticalClearance.{VerticalClearance}
use Rattle.clearance.specs.declared.ClearanceRefusal.{ClearanceRefusal}
use Rattle.clearance.specs.declared.ClearanceRefusal.TheVariants.{OutOfRange, OverObstructed}

back : ClearanceTold → Result VerticalClearance ClearanceRefusal
back (refused n) = Err (cond (eqb n 11) OutOfRange OverObstructed)
back (given there needed exact) = Ok (record { there = there; needed = needed; exact = exact })

back_told : (r : Result VerticalClearance ClearanceRefusal) → back (clearance_told r) ≡ r
unfolding back
back_told (Err OutOfRange) = refl
back_told (Err OverObstructed) = refl
back_told (Ok clearance) = refl

-- answers that tell the same are one
pub clearance_told_one : (r s : Result VerticalClearance ClearanceRefusal) → clearance_told r ≡ clearance_told s → r ≡ s
clearance_told_one r s e = sym (back_told r) ∙ ap back e ∙ back_told s
