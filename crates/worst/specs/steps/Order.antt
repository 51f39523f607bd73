-- The order in which the walk goes through the choices: neighbours differ by one row.
use Rattle.std.specs.Prelude.{ℕ, zero, suc, ◌+◌, ◌*◌, ◌/◌, ◌%◌, ◌^◌}
use Rattle.std.specs.Int.Count.{count_trailing_zeros}

-- whether row j is in the choice of step k, 1 or 0
unfoldable pub held_at : ℕ → ℕ → ℕ
held_at k j = (k / 2 ^ j + 1) / 2 % 2

-- the choice of step k among m rows, as a number: its bit j says whether row j is in it
unfoldable pub choice : ℕ → ℕ → ℕ
choice zero k = 0
choice (suc m) k = held_at k 0 + 2 * choice m (k / 2)

-- the row that changes on the way to step k
unfoldable pub changed : ℕ → ℕ
changed k = count_trailing_zeros 64 k

-- 0 where it is added, 1 where it is taken away
unfoldable pub taken : ℕ → ℕ
taken k = k / 2 ^ changed k / 2 % 2
