-- The code's fractions are those of document 02: a quotient is rounded to the same number when both of its sides are taken five times, and a third
-- of the way down from the upper height to the lower is twice the upper and once the lower, in three.
use mathlib.Core.Path.{◌≡◌}
use Prim.Native.Nat.{ℕ, ◌+◌, ◌*◌, ◌-◌, ◌≤◌}
use native.Mathlib.Omega.{arith}
use Rattle.arithmetic.specs.rounding.Least.{RoundedUp}

-- 9.80665, as 196,133 in 20,000 and as 980,665 in 100,000, with the other units behind it
pub five_times : (n H : ℕ) → RoundedUp (n * 196133) 2000000000000000 H → RoundedUp (n * 980665) 10000000000000000 H
five_times n H u = record {
  holds = let h = u.holds in omega arith;
  least = λ m p. u.least m (omega arith);
}

pub thirds : (upper lower : ℕ) → lower ≤ upper → 3 * upper - (upper - lower) ≡ 2 * upper + lower
thirds upper lower h = omega arith
