-- Document 01, refusals of a book: a key that was used before.
use Rattle.std.specs.Prelude.{ℕ, ◌<◌, ◌≡◌, List, [], get_or}
use Rattle.rows.specs.declared.keys.Key.{Key}

-- what stands in no list
abbrev pub void_key : Key
void_key = record { member = record { len = 0; bytes = [] }; job = record { len = 0; bytes = [] } }

-- a key is among the first n
pub record Among (ks : List Key) (n : ℕ) (k : Key) : Type 0 where
  pub at : ℕ
  pub within : at < n
  pub is : get_or ks at void_key ≡ k
