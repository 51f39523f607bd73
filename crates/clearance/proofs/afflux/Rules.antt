-- The clearance needed has one value.
use mathlib.Core.Path.{◌≡◌, refl}
use Prim.Native.Nat.{ℕ}
use native.Mathlib.Omega.{arith}
use Rattle.arithmetic.proofs.rounding.Laws.{least_one}
use Rattle.clearance.specs.afflux.Rules.{ClearanceNeeded, to_30000, to_300000, to_3000000, above}

pub clearance_needed_one : {Q m n : ℕ} → ClearanceNeeded Q m → ClearanceNeeded Q n → m ≡ n
clearance_needed_one (to_30000 h) (to_30000 k) = refl
clearance_needed_one (to_30000 h) (to_300000 k l v e) = omega arith
clearance_needed_one (to_30000 h) (to_3000000 k l) = omega arith
clearance_needed_one (to_30000 h) (above k) = omega arith
clearance_needed_one (to_300000 h i u d) (to_30000 k) = omega arith
clearance_needed_one (to_300000 h i u d) (to_300000 k l v e) = omega (arith, least_one u v)
clearance_needed_one (to_300000 h i u d) (to_3000000 k l) = omega arith
clearance_needed_one (to_300000 h i u d) (above k) = omega arith
clearance_needed_one (to_3000000 h i) (to_30000 k) = omega arith
clearance_needed_one (to_3000000 h i) (to_300000 k l v e) = omega arith
clearance_needed_one (to_3000000 h i) (to_3000000 k l) = refl
clearance_needed_one (to_3000000 h i) (above k) = omega arith
clearance_needed_one (above h) (to_30000 k) = omega arith
clearance_needed_one (above h) (to_300000 k l v e) = omega arith
clearance_needed_one (above h) (to_3000000 k l) = omega arith
clearance_needed_one (above h) (above k) = refl
