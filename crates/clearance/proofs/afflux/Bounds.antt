-- How large an afflux can be: at most 60,000,000,000,000.
use mathlib.Core.Bool.{Bool}
use Prim.Native.Nat.{ℕ, ◌^◌, ◌≤◌}
use native.Mathlib.Nat.{le_trans, mul-le-mul, sub-le, pow-le-pow_left}
use native.Mathlib.Omega.{arith}
use Rattle.clearance.specs.afflux.Rules.{Afflux}

pub afflux_most : (v A a h : ℕ) {exact : Bool} → v ≤ 10000 → A ≤ 100000 → 1 ≤ a → Afflux v A a h exact → h ≤ 60000000000000
afflux_most v A a h slow whole some u =
    u.rounded.least 60000000000000
    (le_trans (mul-le-mul {n₂ = 1002724912} {m₂ = 10000000000} (omega (arith, pow-le-pow_left slow 2)) (le_trans (sub-le (A ^ 2) (a ^ 2)) (pow-le-pow_left whole 2)))
    (omega (arith, pow-le-pow_left some 2)))
