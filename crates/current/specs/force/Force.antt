-- Document 02, P1 (002, 5.9.2.1 and 5.9.2.6): the force of a water current and its height.
use Rattle.std.specs.Prelude.{ℕ, ◌*◌, ◌-◌, ◌^◌}
use Rattle.arithmetic.specs.rounding.Least.{RoundedUp}

-- "The force is K·A·V² kg at 9.80665 N, in kN rounded up, toward +x,": what is divided by is, in this order, the hundredths in a m², the mm/s in
-- a m/s, squared, the hundred-thousandths in a N, and the N in a kN
abbrev pub Force : ℕ → ℕ → ℕ → ℕ → Type 0
Force K area velocity H = RoundedUp (K * area * velocity ^ 2 * 980665) (10 ^ 2 * (10 ^ 3) ^ 2 * 10 ^ 5 * 10 ^ 3) H

-- "at y = upper - (upper - lower)/3 rounded up;", asked only where the lower height is at most the upper
abbrev pub Arm : ℕ → ℕ → ℕ → Type 0
Arm upper lower y = RoundedUp (3 * upper - (upper - lower)) 3 y
