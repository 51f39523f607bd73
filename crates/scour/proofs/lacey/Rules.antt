-- The depth needed is one, and so is its exactness. That the other rules have one value is what least means.
use mathlib.Core.Path.{◌≡◌, subst}
use mathlib.Core.Bool.{Bool}
use Prim.Native.Nat.{ℕ, ◌*◌}
use Rattle.arithmetic.specs.rounding.Rounding.{RoundsUp}
use Rattle.arithmetic.proofs.rounding.Laws.{least_one}
use Rattle.arithmetic.proofs.rounding.Exactness.{rounding_one}
use Rattle.scour.specs.lacey.Lacey.{DepthNeeded}

pub depth_needed_one : {D reach m n : ℕ} {e f : Bool} → DepthNeeded D reach m e → DepthNeeded D reach n f → (m ≡ n) × (e ≡ f)
depth_needed_one {n = n} {f = f} u v =
    rounding_one least_one u.rounded (subst (λ (g : ℕ). RoundsUp (133 * g) 100 n f) (least_one v.scour u.scour) v.rounded)
