-- Document 01, Earth pressure: what an E row is told, H and y of its fill, or a refusal of its job.
-- `fill` is what is held for a soil and a slope: what the two fill books say for the job's member (02, P4).
use Rattle.std.specs.Prelude.{ℕ, Result, Ok, Err}
use Rattle.kinds.specs.ranges.Range.{Ranged}
use Rattle.kinds.specs.declared.Kind.TheVariants.{E}
use Rattle.kinds.specs.declared.Numbers.{Numbers}
use Rattle.earth.specs.coefficients.Coefficients.{Coefficient}
use Rattle.kinds.specs.declared.pushes.Push.{Push}
use Rattle.earth.specs.declared.EarthRefusal.{EarthRefusal}
use Rattle.earth.specs.declared.EarthRefusal.TheVariants.{OutOfRange, NoCoefficient}
use Rattle.earth.specs.Earth.{backfill_in, EarthTold, push, refused, Pushed}

-- "11, a number out of range"; else what the row's columns give
pub data Pressed (fill : ℕ → ℕ → Coefficient) (row : Numbers) : EarthTold → Type 0 where
  out_of_range : (Ranged E row → ⊥) → Pressed fill row (refused 11)
  in_range : {t : EarthTold} → Ranged E row → Pushed fill (backfill_in row) t → Pressed fill row t

-- an answer in the paper's numbers and values
abbrev pub earth_told : Result Push EarthRefusal → EarthTold
earth_told (Err OutOfRange) = refused 11
earth_told (Err NoCoefficient) = refused 15
earth_told (Ok found) = push found.force found.arm
