-- The bounds keep the product within a word.
use Rattle.std.proofs.Common.{◌≤◌, ◌*◌}
use native.Mathlib.Nat.{lt_of_le_of_lt, mul-le-mul}
use lib.Dec.{lit<}
use Rattle.earth.proofs.thrust.thrust_of.Goals as goal

pub overflow_mul-k-2 : goal.overflow_mul-k-2
overflow_mul-k-2 c =
    let heavy : c.args.k * (c.args.height * c.args.height) ≤ 40000 * (15000 * 15000) = mul-le-mul c.requires.0 (mul-le-mul c.requires.1 c.requires.1) in
    record { fits = lt_of_le_of_lt (mul-le-mul heavy c.requires.2) (lit< tt) }
