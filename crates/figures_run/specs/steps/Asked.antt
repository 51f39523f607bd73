-- How many figures agree behind `count`, and behind `figure`.
use Rattle.std.specs.Prelude.{ℕ, ◌+◌, ◌%◌, ◌^◌, Bool, true, false, ◌==◌}

abbrev pub with_one : Bool → ℕ → ℕ
with_one true agree = (agree + 1) % 2 ^ 64
with_one false agree = agree

-- one more where what came is what 01 says
abbrev pub agreeing : (agree came says : ℕ) → ℕ
agreeing agree came says = with_one (came == says) agree
