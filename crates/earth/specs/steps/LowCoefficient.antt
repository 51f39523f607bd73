-- What `thrust_of` asks of a coefficient, and its callers show of what is held: at most 40,000, so that the code's numbers fit a word.
use Rattle.std.specs.Prelude.{◌≤◌, None, Some}
use Rattle.earth.specs.coefficients.Coefficients.{Coefficient}

-- the code's numbers fit for any coefficient up to 40,000
abbrev pub LowCoefficient : Coefficient → Type 0
LowCoefficient None = Unit {0}
LowCoefficient (Some K) = K ≤ 40000
