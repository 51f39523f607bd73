-- How large a push can be: for coefficients up to 40,000, H is at most 300,000 kN, y at most 5,000 mm, and H·y at most 3·10⁹.
use mathlib.Core.Path.{subst}
use Prim.Native.Nat.{ℕ, ◌*◌, ◌^◌, ◌≤◌}
use native.Mathlib.Nat.{le_trans, mul-le-mul, pow-le-pow_left}
use native.Mathlib.Omega.{arith}
use lib.Dec.{lit≤}
use Rattle.kinds.specs.declared.Numbers.{Numbers}
use Rattle.earth.specs.steps.LowCoefficient.{LowCoefficient}
use Rattle.earth.specs.Earth.{push, Pushed, has_coefficient}
use Rattle.earth.specs.EarthRow.{Pressed, in_range}
use Rattle.earth.specs.coefficients.Coefficients.{Coefficient}
use Rattle.earth.specs.declared.Backfill.{Backfill}

pub record Modest (H y : ℕ) : Type 0 where
  pub thrust : H ≤ 300000
  pub arm : y ≤ 5000
  pub moment : H * y ≤ 3 * 10 ^ 9

-- of any table of fills with such coefficients
module _ {fill : ℕ → ℕ → Coefficient} (small : (soil slope : ℕ) → LowCoefficient (fill soil slope)) where
  pushed_modest : {row : Backfill} {H y : ℕ} → row.height ≤ 15000 → row.length ≤ 60000 → Pushed fill row (push H y) → Modest H y
  pushed_modest {row} high long (has_coefficient e u v) =
      let k = subst LowCoefficient e (small row.soil row.slope) in
      let h = u.least 300000 (le_trans (mul-le-mul (mul-le-mul k (pow-le-pow_left high 2)) long) (lit≤ tt)) in
      let y = v.least 5000 (omega arith) in
      record { thrust = h; arm = y; moment = le_trans (mul-le-mul h y) (lit≤ tt) }

  pub pressed_modest : {row : Numbers} {H y : ℕ} → Pressed fill row (push H y) → Modest H y
  pressed_modest (in_range r s) = pushed_modest r.n3.to r.n4.to s
