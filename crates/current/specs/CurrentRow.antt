-- Document 02, P1, Water current on the shaft: what a W row is told, H and y of the current, or a refusal of its job.
use Rattle.std.specs.Prelude.{Result, Ok, Err}
use Rattle.kinds.specs.ranges.Range.{Ranged}
use Rattle.kinds.specs.declared.Kind.TheVariants.{W}
use Rattle.kinds.specs.declared.Numbers.{Numbers}
use Rattle.kinds.specs.declared.pushes.Push.{Push}
use Rattle.current.specs.declared.CurrentRefusal.{CurrentRefusal}
use Rattle.current.specs.declared.CurrentRefusal.TheVariants.{OutOfRange, UpperBelowLower}
use Rattle.current.specs.Current.{shaft_in, CurrentTold, push, refused, CurrentRule}

-- "11, a number out of range"; else what the row's columns give
pub data CurrentSays (row : Numbers) : CurrentTold → Type 0 where
  out_of_range : (Ranged W row → ⊥) → CurrentSays row (refused 11)
  in_range : {t : CurrentTold} → Ranged W row → CurrentRule (shaft_in row) t → CurrentSays row t

-- an answer in the paper's numbers and values
abbrev pub current_told : Result Push CurrentRefusal → CurrentTold
current_told (Err OutOfRange) = refused 11
current_told (Err UpperBelowLower) = refused 17
current_told (Ok found) = push found.force found.arm
