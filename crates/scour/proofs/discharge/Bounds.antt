-- How large Qf can be: at most 65,000,000.
use Prim.Native.Nat.{ℕ, ◌≤◌}
use native.Mathlib.Nat.{le_trans, mul-le-mul, sub-le}
use native.Mathlib.Omega.{arith}
use lib.Dec.{lit≤}
use Rattle.scour.specs.discharge.Discharge.{FoundationDischarge, to_500, to_5000, to_25000}

pub discharge_most : {Q Z Qf : ℕ} → Q ≤ 50000000 → FoundationDischarge Q Z Qf → Qf ≤ 65000000
discharge_most h (to_500 l u) = u.least 65000000 (omega arith)
discharge_most h (to_5000 k l u) = u.least 65000000 (mul-le-mul {m₂ = 58500} h (omega arith))
discharge_most {Z = Z} h (to_25000 k l u) = u.least 65000000 (le_trans (mul-le-mul h (sub-le 245000 Z)) (lit≤ tt))
