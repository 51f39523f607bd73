-- The decimal text of a number, as document 01 has numbers: digits, with no leading zero save 0 itself.
use Rattle.std.specs.Prelude.{ℕ, zero, suc, ◌+◌, ◌/◌, ◌%◌, cond, List, [], ◌∷◌, ◌++◌, ltb}

-- the last digit
abbrev pub last_digit : ℕ → List ℕ
last_digit n = (0x30 + n % 10) ∷ []

-- the digits of n, in at most so many steps: one digit below ten, else those of a tenth of it and the last one
unfoldable pub digits : ℕ → ℕ → List ℕ
digits zero n = []
digits (suc steps) n = cond (ltb n 10) (last_digit n) (digits steps (n / 10) ++ last_digit n)

-- more steps than n are never needed
unfoldable pub decimal : ℕ → List ℕ
decimal n = digits (suc n) n
