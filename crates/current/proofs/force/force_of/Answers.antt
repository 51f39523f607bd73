-- The bounds keep the product within a word, and its fraction is that of document 02.
use Rattle.std.proofs.Common.{ℕ, ◌≤◌, ◌*◌, arith}
use native.Mathlib.Nat.{le_refl, lt_of_le_of_lt, mul-le-mul}
use lib.Dec.{lit<}
use Rattle.arithmetic.proofs.rounding.Powers.{square}
use Rattle.current.proofs.force.Fractions.{five_times}
use Rattle.current.proofs.force.force_of.Goals as goal

-- of any two numbers that are as small as a velocity, so that an edit of the square is refused by the promise and not here
fast : {u v : ℕ} → u ≤ 6000 → v ≤ 6000 → u * v ≤ 6000 * 6000
fast h k = mul-le-mul h k

pub overflow_mul-k-3 : goal.overflow_mul-k-3
overflow_mul-k-3 c = record { fits = lt_of_le_of_lt (mul-le-mul (mul-le-mul (mul-le-mul c.requires.0 c.requires.1) (fast (omega arith) (omega arith))) (le_refl _)) (lit< tt) }

pub returns : goal.returns
returns c =
    let a = c.args in
    rw (square a.velocity) (five_times (a.k * a.area * (a.velocity * a.velocity)) c.up.result.value c.up.ensures.rounded)
