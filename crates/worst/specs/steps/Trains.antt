-- What `with_row` and `leaders_of` answer: the rows that act and that others name, as a set of rows.
use Rattle.std.specs.Prelude.{◌≡◌, cond, ℕ, suc, ◌+◌, ◌^◌, ◌<◌, eqb}
use Rattle.sets.specs.declared.Combination.{Combination}
use Rattle.sets.specs.declared.Loads.{Loads}
use Rattle.sets.specs.Sets.{bit, row, Acts}

-- a set with a row, whether it had it or not
unfoldable pub with_row : ℕ → ℕ → ℕ
with_row set i = cond (eqb (bit set i) 1) set (set + 2 ^ i)

-- of the first n rows: a row is a leader exactly if it acts and one of them names it
pub record LeadersIs (combination : Combination) (loads : Loads) (n leaders : ℕ) : Type 0 where
  pub acts : (m : ℕ) → bit leaders m ≡ 1 → Acts combination (row loads m).phase
  pub named : (m : ℕ) → bit leaders m ≡ 1 → (i : ℕ) × (i < n) × ((row loads i).train ≡ suc m)
  pub leads : (i m : ℕ) → i < n → (row loads i).train ≡ suc m → Acts combination (row loads m).phase → bit leaders m ≡ 1
