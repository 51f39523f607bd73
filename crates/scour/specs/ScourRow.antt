-- Document 01, what an S row is told: the depth needed (SC), or a refusal of its job.
use Rattle.std.specs.Prelude.{Result, Ok, Err}
use Rattle.arithmetic.specs.declared.rounding.Rounded.{Rounded}
use Rattle.kinds.specs.ranges.Range.{Ranged}
use Rattle.kinds.specs.declared.Kind.TheVariants.{S}
use Rattle.kinds.specs.declared.Numbers.{Numbers}
use Rattle.scour.specs.Scour.{waterway_in, ScourTold, refused, ScourRule, needs}
use Rattle.scour.specs.declared.ScourRefusal.{ScourRefusal}
use Rattle.scour.specs.declared.ScourRefusal.TheVariants.{OutOfRange, LargeCatchment, TooIntense}

-- "11, a number out of range"; else what the row's columns give
pub data ScourSays (row : Numbers) : ScourTold → Type 0 where
  out_of_range : (Ranged S row → ⊥) → ScourSays row (refused 11)
  in_range : {t : ScourTold} → Ranged S row → ScourRule (waterway_in row) t → ScourSays row t

-- an answer in the paper's numbers and values
abbrev pub scour_told : Result Rounded ScourRefusal → ScourTold
scour_told (Err OutOfRange) = refused 11
scour_told (Err LargeCatchment) = refused 12
scour_told (Err TooIntense) = refused 13
scour_told (Ok depth) = needs depth.value depth.exact
