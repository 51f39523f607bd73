-- Document 01, "Earth pressure" (002, 5.7.2): what is held for a soil and a slope. K in N/m² on each metre.
use Rattle.std.specs.Prelude.{ℕ, Option}

-- a value, or none
abbrev pub Coefficient : Type 0
Coefficient = Option ℕ
