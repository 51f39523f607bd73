-- Document 01, Load sets: Y or N.
use Rattle.std.specs.Prelude.{ℕ, ◌≤◌}
use Rattle.checks.specs.declared.Figure.{Figure}
use Rattle.checks.specs.declared.Figure.TheVariants.{Nothing, Number, Off}
use Rattle.checks.specs.Order.{Side, lowest, highest}

-- A line says Y for OP, OM, SL at or above the limit or "none", for PR, RK at or below it; "off" says N.
unfoldable pub PassesNumber : Side → ℕ → ℕ → Type 0
PassesNumber lowest limit v = limit ≤ v
PassesNumber highest limit v = v ≤ limit

unfoldable pub Passes : Side → ℕ → Figure → Type 0
Passes s limit Nothing = Unit {0}
Passes s limit (Number v) = PassesNumber s limit v
Passes s limit Off = ⊥
