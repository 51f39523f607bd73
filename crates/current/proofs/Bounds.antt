-- How large a push can be: H is at most 6,000 kN, y at most 60,000 mm, and H·y at most 3·10⁹.
use Prim.Native.Nat.{ℕ, ◌*◌, ◌^◌, ◌≤◌}
use native.Mathlib.Nat.{le_refl, le_trans, mul-le-mul, pow-le-pow_left}
use native.Mathlib.Omega.{arith}
use lib.Dec.{lit≤}
use Rattle.kinds.specs.ranges.Range.{Ranged}
use Rattle.kinds.specs.declared.Kind.TheVariants.{W}
use Rattle.kinds.specs.declared.Numbers.{Numbers}
use Rattle.current.specs.Current.{shaft_in, push, CurrentRule, pushes}
use Rattle.current.specs.CurrentRow.{CurrentSays, in_range}
use Rattle.current.specs.declared.Shaft.{Shaft}
use Rattle.current.proofs.table4.Constants.{constant_small}

pub record Mild (H y : ℕ) : Type 0 where
  pub force : H ≤ 6000
  pub arm : y ≤ 60000
  pub moment : H * y ≤ 3 * 10 ^ 9

-- of any columns in these bounds
rule_mild : {row : Shaft} {H y : ℕ} → row.area ≤ 20000 → row.velocity ≤ 6000 → row.upper ≤ 60000 → CurrentRule row (push H y) → Mild H y
rule_mild {row} broad fast high (pushes low u v) =
    let product = mul-le-mul (mul-le-mul (mul-le-mul (constant_small row.shape) broad) (pow-le-pow_left fast 2)) (le_refl 980665) in
    let h = u.least 6000 (le_trans product (lit≤ tt)) in
    let y = v.least 60000 (omega arith) in
    record { force = h; arm = y; moment = le_trans (mul-le-mul h y) (lit≤ tt) }

pub push_mild : {row : Numbers} {H y : ℕ} → Ranged W row → CurrentRule (shaft_in row) (push H y) → Mild H y
push_mild r s = rule_mild r.n2.to r.n3.to r.n4.to s

pub says_mild : {row : Numbers} {H y : ℕ} → CurrentSays row (push H y) → Mild H y
says_mild (in_range r s) = push_mild r s
