-- Document 01, refusals of a book, 5 and 6: a job begins if fewer than 64 did before it, and none with its key.
use Rattle.std.specs.Prelude.{ℕ, ◌≤◌, ◌<◌, ◌≡◌, Result, Ok, Err, List}
use Rattle.rows.specs.refusals.Numbers.{refusal_number}
use Rattle.rows.specs.declared.keys.Key.{Key}
use Rattle.rows.specs.declared.refusals.Refusal.{Refusal}
use Rattle.rows.specs.keys.Among.{Among}

-- a job begins, or its B row is refused with a number
pub data BeginningTold : Type 0 where
  allowed : BeginningTold
  refused : ℕ → BeginningTold

abbrev pub beginning_told : Result (Unit {0}) Refusal → BeginningTold
beginning_told (Ok _) = allowed
beginning_told (Err why) = refused (refusal_number why)

-- exactly when: a 65th job is refused with 5, before its key is asked for; a key used before with 6
pub data BeginningSays (ks : List Key) (n : ℕ) (k : Key) (t : BeginningTold) : Type 0 where
  surplus : 64 ≤ n → t ≡ refused 5 → BeginningSays ks n k t
  reused : n < 64 → Among ks n k → t ≡ refused 6 → BeginningSays ks n k t
  unused : n < 64 → (Among ks n k → ⊥) → t ≡ allowed → BeginningSays ks n k t

abbrev pub BeginningIs : List Key → ℕ → Key → Result (Unit {0}) Refusal → Type 0
BeginningIs ks n k b = BeginningSays ks n k (beginning_told b)
