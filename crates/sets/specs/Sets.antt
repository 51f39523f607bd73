-- Document 01, Load sets (002, 5.13), and 02, P3: which sets of a job's load rows a combination permits.
use Rattle.std.specs.Prelude.{◌≡◌, ◌⊎◌, false, ℕ, zero, suc, ◌/◌, ◌%◌, ◌^◌, ◌<◌, get_or}
use Rattle.arithmetic.specs.declared.signed.Amount.{Amount}
use Rattle.sets.specs.declared.Class.{Class}
use Rattle.sets.specs.declared.Class.TheVariants.{Permanent, Wind, Earthquake}
use Rattle.sets.specs.declared.Combination.{Combination}
use Rattle.sets.specs.declared.Combination.TheVariants.{I, II, III, IV}
use Rattle.sets.specs.declared.Load.{Load}
use Rattle.sets.specs.declared.Loads.{Loads}

-- The first load row counts 1, the next 2, the next 4: the bit of row i, from 0, is 1 where the row is in the set.
unfoldable pub bit : ℕ → ℕ → ℕ
bit set i = set / 2 ^ i % 2

-- no load: what stands past the last row
abbrev pub no_amount : Amount
no_amount = record { minus = false; size = 0 }

abbrev pub blank_load : Load
blank_load = record { class = Permanent; phase = 0; train = 0; v = no_amount; x = no_amount; h = no_amount; twist = no_amount }

-- row i, from 0
unfoldable pub row : Loads → ℕ → Load
row loads i = get_or loads.loads i blank_load

-- I, II and III are over phases 0 and 2; IV is over phases 1 and 2.
unfoldable pub own_phase : Combination → ℕ
own_phase I = 0
own_phase II = 0
own_phase III = 0
own_phase IV = 1

-- a row of this phase acts in the combination: of its own phase, or of both
unfoldable pub Acts : Combination → ℕ → Type 0
Acts combination phase = (phase ≡ own_phase combination) ⊎ (phase ≡ 2)

-- a row of the class is in the set
unfoldable pub Has : Class → Loads → ℕ → Type 0
Has class loads set = (i : ℕ) × (i < loads.count) × (bit set i ≡ 1) × ((row loads i).class ≡ class)

-- some row has phase 1
unfoldable pub Erected : Loads → Type 0
Erected loads = (i : ℕ) × (i < loads.count) × ((row loads i).phase ≡ 1)

-- I: no WL or SF. II: at least one WL, no SF. III: at least one SF, no WL. IV: never WL with SF.
unfoldable pub Mixed : Combination → Loads → ℕ → Type 0
Mixed I loads set = (Has Wind loads set → ⊥) × (Has Earthquake loads set → ⊥)
Mixed II loads set = Has Wind loads set × (Has Earthquake loads set → ⊥)
Mixed III loads set = (Has Wind loads set → ⊥) × Has Earthquake loads set
Mixed IV loads set = Has Wind loads set → Has Earthquake loads set → ⊥

-- the row at this position, from 1, is in the set; 0 names no row
unfoldable pub HasTrain : ℕ → ℕ → Type 0
HasTrain zero set = Unit {0}
HasTrain (suc i) set = bit set i ≡ 1

pub record Permitted (combination : Combination) (loads : Loads) (set : ℕ) : Type 0 where
  -- A set has at least one row,
  pub some : 0 < set
  -- of the job's load rows:
  pub within : set < 2 ^ loads.count
  -- every permanent row of the phases,
  pub permanent : (i : ℕ) → i < loads.count → (row loads i).class ≡ Permanent → Acts combination (row loads i).phase → bit set i ≡ 1
  -- any optional of those phases, and of no other,
  pub acting : (i : ℕ) → i < loads.count → bit set i ≡ 1 → Acts combination (row loads i).phase
  -- with WL and SF as the combination says,
  pub mixed : Mixed combination loads set
  -- and LF and CF with the LL row that they name: "a set that holds one without that LL row is no set" (02, P3).
  pub trained : (i : ℕ) → i < loads.count → bit set i ≡ 1 → HasTrain (row loads i).train set
  -- IV, only if some row has phase 1.
  pub erection : combination ≡ IV → Erected loads
