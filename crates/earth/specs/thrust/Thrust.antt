-- Document 01, "Earth pressure" (002, 5.7.2): the thrust of a fill and the thrust's height. Lengths in mm, H in kN, K in N/m² on each metre.
use Rattle.std.specs.Prelude.{ℕ, ◌*◌, ◌^◌}
use Rattle.arithmetic.specs.rounding.Least.{RoundedUp}

-- "H in kN is K·height²·length/(2·10^12) rounded up, toward +x,"
abbrev pub Thrust : ℕ → ℕ → ℕ → ℕ → Type 0
Thrust K height length H = RoundedUp (K * height ^ 2 * length) (2 * 10 ^ 12) H

-- "at y = height/3 rounded up;"
abbrev pub Arm : ℕ → ℕ → Type 0
Arm height y = RoundedUp height 3 y
