-- The rule for Qf has one value.
use mathlib.Core.Path.{◌≡◌}
use Prim.Native.Nat.{ℕ, ◌<◌}
use native.Mathlib.Omega.{arith}
use Rattle.arithmetic.proofs.rounding.Laws.{least_one}
use Rattle.scour.specs.discharge.Discharge.{FoundationDischarge, to_500, to_5000, to_25000}

pub discharge_one : {Q Z m n : ℕ} → FoundationDischarge Q Z m → FoundationDischarge Q Z n → m ≡ n
discharge_one (to_500 h u) (to_500 k v) = least_one u v
discharge_one (to_500 h u) (to_5000 k l v) = omega arith
discharge_one (to_500 h u) (to_25000 k l v) = omega arith
discharge_one (to_5000 h i u) (to_500 k v) = omega arith
discharge_one (to_5000 h i u) (to_5000 k l v) = least_one u v
discharge_one (to_5000 h i u) (to_25000 k l v) = omega arith
discharge_one (to_25000 h i u) (to_500 k v) = omega arith
discharge_one (to_25000 h i u) (to_5000 k l v) = omega arith
discharge_one (to_25000 h i u) (to_25000 k l v) = least_one u v

-- and none for a catchment above 25,000
pub no_discharge : {Q Z Qf : ℕ} → 25000 < Z → FoundationDischarge Q Z Qf → ⊥
no_discharge h (to_500 k u) = omega arith
no_discharge h (to_5000 k l u) = omega arith
no_discharge h (to_25000 k l u) = omega arith
