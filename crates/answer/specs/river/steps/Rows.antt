-- What `depth_of`, `clear_of` and `both` answer, whatever job the rows stand in.
use Rattle.std.specs.Prelude.{ℕ, ◌≤◌, ◌≡◌, Bool, true, false, pos, Result, Ok, Err}
use Rattle.arithmetic.specs.declared.signed.Amount.{Amount}
use Rattle.arithmetic.specs.signed.Whole.{amount}
use Rattle.arithmetic.specs.decides.Decides.{Decides}
use Rattle.scour.specs.Scour.{ScourTold, refused, needs}
use Rattle.clearance.specs.Clear.{AtLeast}
use Rattle.clearance.specs.declared.VerticalClearance.{VerticalClearance}
use Rattle.clearance.specs.declared.ClearanceRefusal.{ClearanceRefusal}
use Rattle.clearance.specs.declared.ClearanceRefusal.TheVariants as clearance
use Rattle.kinds.specs.declared.refusals.JobRefusal.{JobRefusal}
use Rattle.kinds.specs.declared.refusals.JobRefusal.TheVariants as refusal
use Rattle.kinds.specs.refusals.Refusals.{refusal_number, lower_refusal}
use Rattle.lines.specs.declared.RiverLine.{RiverLine}
use Rattle.lines.specs.declared.RiverLine.TheVariants as line

-- SC: on rock none; else the depth needed beside the depth found
abbrev pub DepthLineIs : Bool → (needed : ℕ) → (exact : Bool) → (found : ℕ) → RiverLine → Type 0
DepthLineIs rock needed exact found line.Missing = rock ≡ true
DepthLineIs rock needed exact found (line.Shown depth f passes e) =
    (rock ≡ false) × (depth ≡ amount (pos needed)) × (f ≡ found) × Decides passes (needed ≤ found) × (e ≡ exact)

abbrev pub DepthGiven : Bool → ℕ → ScourTold → Result RiverLine JobRefusal → Type 0
DepthGiven rock found told (Err r) = told ≡ refused (refusal_number r)
DepthGiven rock found told (Ok l) = (needed : ℕ) × (exact : Bool) × (told ≡ needs needed exact) × DepthLineIs rock needed exact found l

-- CL: the clearance there is beside the clearance needed
abbrev pub ClearLineIs : Amount → (needed : ℕ) → (exact : Bool) → RiverLine → Type 0
ClearLineIs clearance needed exact line.Missing = ⊥
ClearLineIs clearance needed exact (line.Shown c n passes e) = (c ≡ clearance) × (n ≡ needed) × Decides passes (AtLeast clearance needed) × (e ≡ exact)

abbrev pub ClearGiven : Result VerticalClearance ClearanceRefusal → Result RiverLine JobRefusal → Type 0
ClearGiven (Err clearance.OutOfRange) r = r ≡ Err refusal.OutOfRange
ClearGiven (Err clearance.OverObstructed) r = r ≡ Err refusal.OverObstructed
ClearGiven (Ok found) (Err n) = ⊥
ClearGiven (Ok found) (Ok l) = ClearLineIs found.there found.needed found.exact l

-- "Order as numbered": the lower of two refusals, or what both parts give
abbrev pub both : {A B : Type 0} → Result A JobRefusal → Result B JobRefusal → Result (A × B) JobRefusal
both (Err n) (Err m) = Err (lower_refusal n m)
both (Err n) (Ok b) = Err n
both (Ok a) (Err m) = Err m
both (Ok a) (Ok b) = Ok (a, b)
