-- Document 01, what the columns of an S row give: the depth needed (SC), or a refusal of its job.
use Rattle.std.specs.Prelude.{Bool, ℕ, ◌≤◌, ◌<◌}
use Rattle.scour.specs.discharge.Discharge.{FoundationDischarge}
use Rattle.scour.specs.lacey.Lacey.{RegimeMet, RegimeDepth, Intensity, ConstrictedDepth, DepthNeeded}
use Rattle.kinds.specs.declared.Numbers.{Numbers}
use Rattle.scour.specs.declared.Waterway.{Waterway}

-- the columns of an S row: Q, catchment, silt factor, waterway W, reach, foundation depth below flood
abbrev pub waterway_in : Numbers → Waterway
waterway_in n = record { discharge = n.n1.size; catchment = n.n2.size; silt = n.n3.size; width = n.n4.size; reach = n.n5.size; depth = n.n6.size }

-- an answer in the paper's numbers: refused with a number, or the depth needed, and whether its 1.33 is exact
pub data ScourTold : Type 0 where
  refused : ℕ → ScourTold
  needs : ℕ → Bool → ScourTold

-- the constricted rule applies, and gives q
pub record Constricted (row : Waterway) (q : ℕ) : Type 0 where
  pub Qf : ℕ
  pub flood : FoundationDischarge row.discharge row.catchment Qf
  pub narrow : RegimeMet row.discharge row.width → ⊥
  pub intensity : Intensity Qf row.width q

-- Lacey's depth, by the rule that applies, exact or not
pub data LaceyDepth (row : Waterway) (D : ℕ) : Type 0 where
  regime : {Qf : ℕ} {exact : Bool} → FoundationDischarge row.discharge row.catchment Qf → RegimeMet row.discharge row.width → RegimeDepth Qf row.silt D exact → LaceyDepth row D
  constricted : {q : ℕ} {exact : Bool} → Constricted row q → q ≤ 50000 → ConstrictedDepth q row.silt D exact → LaceyDepth row D

-- "12, catchment above 25,000; 13, the constricted rule applies and q is above 50,000"; else the depth needed
pub data ScourRule (row : Waterway) : ScourTold → Type 0 where
  large_catchment : 25000 < row.catchment → ScourRule row (refused 12)
  too_intense : {q : ℕ} → Constricted row q → 50000 < q → ScourRule row (refused 13)
  needed : {D depth : ℕ} {exact : Bool} → LaceyDepth row D → DepthNeeded D row.reach depth exact → ScourRule row (needs depth exact)
