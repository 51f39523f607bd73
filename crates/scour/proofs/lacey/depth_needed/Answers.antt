-- The greatest scour is at most 112,750 mm, since the depth is at most 41,000.
use Rattle.std.proofs.Common.{◌≤◌, ◌*◌, ◌-◌, get_or, arith}
use native.Mathlib.Nat.{mul-le-mul}
use Rattle.arithmetic.proofs.rounding.Tables.{under}
use Rattle.scour.specs.lacey.Lacey.{reaches}
use Rattle.scour.proofs.lacey.depth_needed.Goals as goal

pub overflow_mul-greatest : goal.overflow_mul-greatest
overflow_mul-greatest c =
    let most : get_or reaches (c.args.reach - 1) 0 * c.args.depth ≤ 275 * 41000 = mul-le-mul (under 275 reaches tt (c.args.reach - 1)) c.requires.0 in
    omega (arith, c.up-greatest.ensures.rounded.least 112750 most)
