-- Document 01, what a C row is told, with the Q of its job's S row: the clearance there is and the clearance needed (CL), or a refusal of its job.
use Rattle.clearance.specs.declared.VerticalClearance.{VerticalClearance}
use Rattle.clearance.specs.declared.ClearanceRefusal.{ClearanceRefusal}
use Rattle.clearance.specs.declared.ClearanceRefusal.TheVariants.{OutOfRange, OverObstructed}
use Rattle.std.specs.Prelude.{ℕ, Result, Ok, Err}
use Rattle.kinds.specs.ranges.Range.{Ranged}
use Rattle.kinds.specs.declared.Kind.TheVariants.{C}
use Rattle.kinds.specs.declared.Numbers.{Numbers}
use Rattle.clearance.specs.Clear.{opening_of, ClearanceTold, refused, given, Cleared}

-- an answer in the paper's numbers and values
abbrev pub clearance_told : Result VerticalClearance ClearanceRefusal → ClearanceTold
clearance_told (Err OutOfRange) = refused 11
clearance_told (Err OverObstructed) = refused 14
clearance_told (Ok clearance) = given clearance.there clearance.needed clearance.exact

-- "11, a number out of range"; else what the row's columns give
pub data ClearanceSays (row : Numbers) (Q : ℕ) : ClearanceTold → Type 0 where
  out_of_range : (Ranged C row → ⊥) → ClearanceSays row Q (refused 11)
  in_range : {t : ClearanceTold} → Ranged C row → Cleared (opening_of row) Q t → ClearanceSays row Q t
