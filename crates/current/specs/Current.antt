-- Document 02, P1, "Water current on the shaft" (002, 5.9.2): what the columns of a W row give, the force of the current and the force's height, or a
-- refusal of its job. Area in hundredths of m², velocity in mm/s, heights in mm, H in kN.
use Rattle.std.specs.Prelude.{ℕ, ◌<◌, ◌≤◌}
use Rattle.kinds.specs.declared.Numbers.{Numbers}
use Rattle.current.specs.table4.Table4.{table4_constant}
use Rattle.current.specs.force.Force.{Force, Arm}
use Rattle.current.specs.declared.Shaft.{Shaft}

-- the columns of a W row: shape, exposed area, velocity, upper and lower wetted height
abbrev pub shaft_in : Numbers → Shaft
shaft_in n = record { shape = n.n1.size; area = n.n2.size; velocity = n.n3.size; upper = n.n4.size; lower = n.n5.size }

-- an answer in the paper's numbers: refused with a number, or H and y
pub data CurrentTold : Type 0 where
  refused : ℕ → CurrentTold
  push : (H y : ℕ) → CurrentTold

-- "17, upper below lower"; else H and y, by the constant that Table 4 holds for the row's shape
pub data CurrentRule (row : Shaft) : CurrentTold → Type 0 where
  upper_below_lower : row.upper < row.lower → CurrentRule row (refused 17)
  pushes : {H y : ℕ} → row.lower ≤ row.upper → Force (table4_constant row.shape) row.area row.velocity H → Arm row.upper row.lower y → CurrentRule row (push H y)
