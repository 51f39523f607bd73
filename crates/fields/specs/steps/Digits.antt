-- What `digits_of` answers.
use Rattle.std.specs.Prelude.{ℕ, Option, Some, None, List}
use Rattle.fields.specs.digits.Numerals.{Digited}

-- the answer for digits
abbrev pub DigitsAre : List ℕ → Option ℕ → Type 0
DigitsAre s (Some n) = Digited s n
DigitsAre s None = (n : ℕ) → Digited s n → ⊥
