-- Document 02, P5, "Surcharge behind an abutment" (002, 5.8.2): what the columns of a G row give, two forces and their heights, or a refusal of its job.
-- Surcharges in kg/m, depth and length in mm, H in kN.
use Rattle.std.specs.Prelude.{◌≡◌, ℕ, ◌+◌, ◌-◌, ◌<◌, ◌≤◌}
use Rattle.kinds.specs.declared.Numbers.{Numbers}
use Rattle.surcharge.specs.tables.Tables.{table3_surcharge, table3_width, active}
use Rattle.surcharge.specs.force.Force.{within, beyond, PartsAre}
use Rattle.surcharge.specs.declared.Abutment.{Abutment}
use Rattle.surcharge.specs.declared.Parts.{Parts}

-- the columns of a G row: standard of loading, dead surcharge, soil, depth h, length L of the abutment
abbrev pub abutment_in : Numbers → Abutment
abutment_in n = record { standard = n.n1.size; dead = n.n2.size; soil = n.n3.size; depth = n.n4.size; length = n.n5.size }

-- an answer in the paper's numbers: refused with a number, or two parts, each H and y
pub data SurchargeTold : Type 0 where
  refused : ℕ → SurchargeTold
  pushes : Parts → SurchargeTold

-- "L is the abutment length, B Table 3's width."
abbrev pub B : Abutment → ℕ
B row = table3_width row.standard

-- the live and the dead surcharge together
abbrev pub total : Abutment → ℕ
total row = table3_surcharge row.standard + row.dead

-- "19, length not above B"
abbrev pub NotAbove : Abutment → Type 0
NotAbove row = row.length ≤ B row

-- "20, soil type e"
abbrev pub TypeE : Abutment → Type 0
TypeE row = row.soil ≡ 5

-- "Depth to L-B and beyond are two cases"
pub data PartsOf (row : Abutment) : Parts → Type 0 where
  to_bound : {parts : Parts} → row.depth ≤ row.length - B row → PartsAre row.length (within (total row) (active row.soil) (B row) row.depth) parts → PartsOf row parts
  past_bound : {parts : Parts} → row.length - B row < row.depth → PartsAre row.length (beyond (total row) (active row.soil) (B row) row.depth row.length) parts → PartsOf row parts

-- 19, else 20, else the two forces
pub data SurchargeRule (row : Abutment) : SurchargeTold → Type 0 where
  not_above : NotAbove row → SurchargeRule row (refused 19)
  type_e : B row < row.length → TypeE row → SurchargeRule row (refused 20)
  pushed : {parts : Parts} → B row < row.length → (TypeE row → ⊥) → PartsOf row parts → SurchargeRule row (pushes parts)
