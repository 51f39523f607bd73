-- What `load_of` and its steps answer: what one load row is told by itself, the lowest of 11, 15, 17, 19 and 20, or what it exerts (document 01, Refusals of a job;
-- 02, P1 and P5).
use Rattle.std.specs.Prelude.{ℕ, ◌≡◌, Result, Ok, Err}
use Rattle.arithmetic.specs.rounding.Least.{Least}
use Rattle.kinds.specs.declared.Row.{Row}
use Rattle.kinds.specs.ranges.Range.{Ranged}
use Rattle.earth.specs.coefficients.Coefficients.{Coefficient}
use Rattle.loads.specs.forces.Blank.{BlankThere}
use Rattle.loads.specs.forces.Wetted.{UpperBelowLower}
use Rattle.loads.specs.forces.Laden.{LengthNotAbove, SoilTypeE}
use Rattle.loads.specs.forces.Exerts.{Exerts}
use Rattle.kinds.specs.declared.refusals.JobRefusal.{JobRefusal}
use Rattle.kinds.specs.refusals.Refusals.{refusal_number}
use Rattle.sets.specs.declared.Load.{Load}
use Rattle.loads.specs.declared.forces.Membership.{Membership}

-- what a row shows by itself
pub data RowWhen (fill : ℕ → ℕ → Coefficient) (row : Row) : ℕ → Type 0 where
  out_of_range : (Ranged row.kind row.numbers → ⊥) → RowWhen fill row 11
  blank : BlankThere fill row → RowWhen fill row 15
  upper_below_lower : UpperBelowLower row → RowWhen fill row 17
  not_above : LengthNotAbove row → RowWhen fill row 19
  type_e : SoilTypeE row → RowWhen fill row 20

-- told by itself: the least of its numbers, or what it exerts
unfoldable pub LoadOf : (ℕ → ℕ → Coefficient) → Row → Result Load JobRefusal → Type 0
LoadOf fill row (Err refusal) = Least (RowWhen fill row) (refusal_number refusal)
LoadOf fill row (Ok load) = ((n : ℕ) → RowWhen fill row n → ⊥) × Exerts fill row load

-- a load has this class, this phase and this train
pub record Belongs (of : Membership) (load : Load) : Type 0 where
  pub class : load.class ≡ of.class
  pub phase : load.phase ≡ of.phase
  pub train : load.train ≡ of.train
