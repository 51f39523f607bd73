-- Document 02, P5, Surcharge behind an abutment: what a G row is told, its two parts, or a refusal of its job.
use Rattle.std.specs.Prelude.{Result, Ok, Err}
use Rattle.kinds.specs.ranges.Range.{Ranged}
use Rattle.kinds.specs.declared.Kind.TheVariants.{G}
use Rattle.kinds.specs.declared.Numbers.{Numbers}
use Rattle.surcharge.specs.declared.Parts.{Parts}
use Rattle.surcharge.specs.declared.SurchargeRefusal.{SurchargeRefusal}
use Rattle.surcharge.specs.declared.SurchargeRefusal.TheVariants.{OutOfRange, LengthNotAbove, SoilTypeE}
use Rattle.surcharge.specs.Surcharge.{abutment_in, SurchargeTold, refused, pushes, SurchargeRule}

-- "11, a number out of range"; else what the row's columns give
pub data SurchargeSays (row : Numbers) : SurchargeTold → Type 0 where
  out_of_range : (Ranged G row → ⊥) → SurchargeSays row (refused 11)
  in_range : {t : SurchargeTold} → Ranged G row → SurchargeRule (abutment_in row) t → SurchargeSays row t

-- an answer in the paper's numbers and values
abbrev pub surcharge_told : Result Parts SurchargeRefusal → SurchargeTold
surcharge_told (Err OutOfRange) = refused 11
surcharge_told (Err LengthNotAbove) = refused 19
surcharge_told (Err SoilTypeE) = refused 20
surcharge_told (Ok parts) = pushes parts
