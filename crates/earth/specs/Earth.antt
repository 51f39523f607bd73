-- Document 01, "Earth pressure" (002, 5.7.2): what the columns of an E row give, the thrust of its fill and the thrust's height, or a refusal of its job.
-- Lengths in mm, H in kN, K in N/m² on each metre.
-- `fill` is what is held for a soil and a slope: what the two fill books say for the job's member (02, P4).
use Rattle.std.specs.Prelude.{◌≡◌, ℕ, None, Some}
use Rattle.kinds.specs.declared.Numbers.{Numbers}
use Rattle.earth.specs.coefficients.Coefficients.{Coefficient}
use Rattle.earth.specs.thrust.Thrust.{Thrust, Arm}
use Rattle.earth.specs.declared.Backfill.{Backfill}

-- the columns of an E row: soil, slope, height, length
abbrev pub backfill_in : Numbers → Backfill
backfill_in n = record { soil = n.n1.size; slope = n.n2.size; height = n.n3.size; length = n.n4.size }

-- an answer in the paper's numbers: refused with a number, or H and y
pub data EarthTold : Type 0 where
  refused : ℕ → EarthTold
  push : (H y : ℕ) → EarthTold

-- "15 now means that neither book has a value" (02, P4); else H and y, by the coefficient that is held for the row's soil and slope
pub data Pushed (fill : ℕ → ℕ → Coefficient) (row : Backfill) : EarthTold → Type 0 where
  blank : fill row.soil row.slope ≡ None → Pushed fill row (refused 15)
  has_coefficient : {K H y : ℕ} → fill row.soil row.slope ≡ Some K → Thrust K row.height row.length H → Arm row.height y → Pushed fill row (push H y)
