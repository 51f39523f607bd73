-- The second force's product fits a word, and is no more than 302,500 kg a metre.
use Rattle.std.proofs.Common.{◌≤◌, ◌+◌, ◌*◌, arith}
use native.Mathlib.Nat.{le_refl, le_trans, lt_of_le_of_lt, mul-le-mul}
use lib.Dec.{lit<, lit≤}
use Rattle.surcharge.proofs.force.Sizes.{second_small}
use Rattle.surcharge.proofs.force.parts_of.Goals as goal

pub overflow_mul-total-4 : goal.overflow_mul-total-4
overflow_mul-total-4 c =
    let known = c.requires.total_bound in
    let deep : c.args.spread ≤ 15000 = omega (arith, c.requires.depth_bound) in
    record { fits = lt_of_le_of_lt (mul-le-mul (mul-le-mul known.0 (mul-le-mul deep deep)) known.1) (lit< tt) }

pub force_of-requires-2 : goal.force_of-requires-2
force_of-requires-2 c =
    let a = c.args in
    let known = c.requires.total_bound in
    let deep : a.spread ≤ 15000 = omega (arith, c.requires.depth_bound) in
    let width : 1 ≤ 200 * a.width = omega (arith, known) in
    let reach : 1 ≤ a.width + a.spread = omega (arith, known) in
    let some : 1 * 1 ≤ 200 * a.width * (a.width + a.spread) = mul-le-mul width reach in
    let small = second_small a.total a.k a.width a.depth a.spread known.0 known.1 known.2 deep in
    (some, le_trans small (mul-le-mul (lit≤ tt) (le_refl _)), c.requires.depth_bound.2)
