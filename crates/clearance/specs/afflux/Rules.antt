-- Document 01, "River rules" for clearance (002, 4.7 and 4.8), each rule in the paper's words and letters. Lengths in mm, discharges in l/s,
-- velocities in mm/s, areas in tenths of m².
use Rattle.std.specs.Prelude.{◌≡◌, Bool, ℕ, ◌+◌, ◌-◌, ◌*◌, ◌^◌, ◌≤◌, ◌<◌}
use Rattle.arithmetic.specs.rounding.Least.{RoundedUp}
use Rattle.arithmetic.specs.rounding.Rounding.{RoundsUp}

-- 4.7.1. "Afflux in mm, rounded up: (10v²+2,724,912)(A²-a²)/(178,800 a²).", where a is not above A. 02, P7: "Every rounding is to tell also whether it was exact."
abbrev pub Afflux : ℕ → ℕ → ℕ → ℕ → Bool → Type 0
Afflux v A a h exact = RoundsUp ((10 * v ^ 2 + 2724912) * (A ^ 2 - a ^ 2)) (178800 * a ^ 2) h exact

-- 4.8.1. "Clearance needed: Q to 30,000: 600; to 300,000: 600 + 600(Q-30,000)/270,000 rounded up; to 3,000,000: 1,500; above: 1,800."
pub data ClearanceNeeded (Q : ℕ) : ℕ → Type 0 where
  to_30000 : Q ≤ 30000 → ClearanceNeeded Q 600
  to_300000 : {more n : ℕ} → 30000 < Q → Q ≤ 300000 → RoundedUp (600 * (Q - 30000)) 270000 more → n ≡ 600 + more → ClearanceNeeded Q n
  to_3000000 : 300000 < Q → Q ≤ 3000000 → ClearanceNeeded Q 1500
  above : 3000000 < Q → ClearanceNeeded Q 1800
