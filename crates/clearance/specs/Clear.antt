-- Document 01, what the columns of a C row give, with the Q of its job's S row: underside - flood - afflux and the clearance needed (CL), or a refusal of its job.
use Rattle.std.specs.Prelude.{◌≡◌, Bool, false, ℕ, ◌≤◌, ◌<◌, pos, ◌-ℤ◌}
use Rattle.arithmetic.specs.declared.signed.Amount.{Amount}
use Rattle.arithmetic.specs.signed.Whole.{worth, amount}
use Rattle.fields.specs.declared.Entry.{Entry}
use Rattle.kinds.specs.declared.Numbers.{Numbers}
use Rattle.clearance.specs.afflux.Rules.{Afflux, ClearanceNeeded}
use Rattle.clearance.specs.declared.Opening.{Opening}

-- a level, above zero or below
abbrev pub level : Entry → Amount
level e = record { minus = e.minus; size = e.size }

-- the columns of a C row: velocity, area A and obstructed area a, underside and flood level
abbrev pub opening_of : Numbers → Opening
opening_of n = record { velocity = n.n1.size; area = n.n2.size; obstructed = n.n3.size; underside = level n.n4; flood = level n.n5 }

-- an answer in the paper's numbers: refused with a number, or the clearance there is, the clearance needed, and whether the afflux was exact.
-- 02, P7: "SC reports the rounding of the 1.33, CL that of the afflux"
pub data ClearanceTold : Type 0 where
  refused : ℕ → ClearanceTold
  given : Amount → ℕ → Bool → ClearanceTold

-- "14, a above A"; else underside - flood - afflux and the clearance needed
pub data Cleared (row : Opening) (Q : ℕ) : ClearanceTold → Type 0 where
  over_obstructed : row.area < row.obstructed → Cleared row Q (refused 14)
  clear : {afflux needed : ℕ} {clearance : Amount} {exact : Bool} → row.obstructed ≤ row.area → Afflux row.velocity row.area row.obstructed afflux exact
      → clearance ≡ amount (worth row.underside -ℤ worth row.flood -ℤ pos afflux) → ClearanceNeeded Q needed
      → Cleared row Q (given clearance needed exact)

-- "CL value >= limit": a clearance is not below zero, and at least the clearance needed
pub record AtLeast (clearance : Amount) (needed : ℕ) : Type 0 where
  pub plain : clearance.minus ≡ false
  pub enough : needed ≤ clearance.size
