-- Document 01, Load sets: which of two printed figures is the worse. Lowest for OP, OM, SL ("none" best), highest for PR, RK ("off" worst).
use Rattle.std.specs.Prelude.{ℕ, ◌<◌}
use Rattle.checks.specs.declared.Check.{Check}
use Rattle.checks.specs.declared.Check.TheVariants.{OP, OM, SL, PR, RK}
use Rattle.checks.specs.declared.Figure.{Figure}
use Rattle.checks.specs.declared.Figure.TheVariants.{Nothing, Number, Off}

-- the worse end of the numbers
pub data Side : Type 0 where
  lowest : Side
  highest : Side

unfoldable pub side : Check → Side
side OP = lowest
side OM = lowest
side SL = lowest
side PR = highest
side RK = highest

-- the first number is worse than the second
unfoldable pub WorseNumber : Side → ℕ → ℕ → Type 0
WorseNumber lowest a b = a < b
WorseNumber highest a b = b < a

-- the first figure is worse than the second
unfoldable pub Worse : Side → Figure → Figure → Type 0
unfolding WorseNumber
Worse s Off Off = ⊥
Worse s Off (Number b) = Unit {0}
Worse s Off Nothing = Unit {0}
Worse s (Number a) Off = ⊥
Worse s (Number a) (Number b) = WorseNumber s a b
Worse s (Number a) Nothing = Unit {0}
Worse s Nothing Off = ⊥
Worse s Nothing (Number b) = ⊥
Worse s Nothing Nothing = ⊥
