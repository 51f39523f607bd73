-- What `wrapped`, `key_of`, `shift_of`, `moved` and the readings of `carried` answer: the sums of a set as a walk carries them from set to set, modulo 2^64.
use Rattle.std.specs.Prelude.{ℕ, ◌+◌, ◌-◌, ◌*◌, ◌/◌, ◌%◌, ◌^◌, cond, nat_lt}
use Rattle.sums.specs.declared.Balance.{Balance}
use Rattle.sums.specs.declared.Sums.{Sums}
use Rattle.sums.specs.declared.carried.Carried.{Carried}

-- what a is more than b: below zero it is so much less than 2^64
unfoldable pub wrapped : ℕ → ℕ → ℕ
wrapped a b = (a + (2 ^ 64 - b)) % 2 ^ 64

-- a set's wind and earthquake rows, its number, and how many rows it has
unfoldable pub key_of : Sums → ℕ
key_of s = s.winds + 256 * s.earthquakes + 65536 * (s.set + 65536 * s.rows)

unfoldable pub balance_shift : Balance → Balance → Balance
balance_shift up down = record { resisting = wrapped up.resisting down.resisting; overturning = wrapped up.overturning down.overturning }

-- what leads from a set to one that has the rows of `up` more and those of `down` less
unfoldable pub shift_of : Sums → Sums → Carried
shift_of up down =
    record {
      n = wrapped (up.v.above + down.v.below) (up.v.below + down.v.above);
      h = wrapped (up.h.above + down.h.below) (up.h.below + down.h.above);
      m = wrapped (up.m.above + down.m.below) (up.m.below + down.m.above);
      plus = balance_shift up.plus down.plus;
      minus = balance_shift up.minus down.minus;
      key = wrapped (key_of up) (key_of down);
    }

unfoldable pub balance_moved : Balance → Balance → Balance
balance_moved a b = record { resisting = (a.resisting + b.resisting) % 2 ^ 64; overturning = (a.overturning + b.overturning) % 2 ^ 64 }

unfoldable pub moved : Carried → Carried → Carried
moved a b =
    record {
      n = (a.n + b.n) % 2 ^ 64;
      h = (a.h + b.h) % 2 ^ 64;
      m = (a.m + b.m) % 2 ^ 64;
      plus = balance_moved a.plus b.plus;
      minus = balance_moved a.minus b.minus;
      key = (a.key + b.key) % 2 ^ 64;
    }

-- ---- a carried number read back
unfoldable pub over_zero : ℕ → ℕ
over_zero x = cond (nat_lt x (2 ^ 63)) x 0

unfoldable pub from_zero : ℕ → ℕ
from_zero x = cond (nat_lt x (2 ^ 63)) x (2 ^ 64 - x)

-- ---- what its key tells of the set
unfoldable pub wind_count : Carried → ℕ
wind_count c = c.key % 256

unfoldable pub earthquake_count : Carried → ℕ
earthquake_count c = c.key / 256 % 256

unfoldable pub carried_set : Carried → ℕ
carried_set c = c.key / 65536 % 65536
