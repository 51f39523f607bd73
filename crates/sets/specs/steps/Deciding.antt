-- What `row_fits`, `has_train`, `raised_by`, `arises` and `admits` decide: which sets a combination permits, row by row and by counts.
use Rattle.std.specs.Prelude.{◌≡◌, ◌⊎◌, ℕ, ◌<◌}
use Rattle.sets.specs.declared.Class.{Class}
use Rattle.sets.specs.declared.Class.TheVariants.{Permanent, Wind, Earthquake}
use Rattle.sets.specs.declared.Combination.{Combination}
use Rattle.sets.specs.declared.Combination.TheVariants.{I, II, III, IV}
use Rattle.sets.specs.declared.Load.{Load}
use Rattle.sets.specs.declared.Loads.{Loads}
use Rattle.sets.specs.Sets.{row, Acts, HasTrain}

-- a row may stand in a set as its bit says
pub record RowFits (combination : Combination) (load : Load) (set held : ℕ) : Type 0 where
  pub acting : held ≡ 1 → Acts combination load.phase
  pub permanent : load.class ≡ Permanent → Acts combination load.phase → held ≡ 1
  pub trained : held ≡ 1 → HasTrain load.train set

-- the combination is raised by a row of this class and phase: by any row I, a WL row II, an SF row III, a row of phase 1 IV
unfoldable pub RaisedBy : Combination → Class → ℕ → Type 0
RaisedBy I class phase = Unit {0}
RaisedBy II class phase = class ≡ Wind
RaisedBy III class phase = class ≡ Earthquake
RaisedBy IV class phase = phase ≡ 1

-- some row raises the combination
unfoldable pub Arises : Combination → Loads → Type 0
Arises combination loads = (i : ℕ) × (i < loads.count) × RaisedBy combination (row loads i).class (row loads i).phase

-- so many wind and earthquake rows may act together, in a set that has a row
unfoldable pub Together : Combination → ℕ → ℕ → Type 0
Together I winds earthquakes = (winds ≡ 0) × (earthquakes ≡ 0)
Together II winds earthquakes = (0 < winds) × (earthquakes ≡ 0)
Together III winds earthquakes = (winds ≡ 0) × (0 < earthquakes)
Together IV winds earthquakes = (winds ≡ 0) ⊎ (earthquakes ≡ 0)

pub record Admits (combination : Combination) (winds earthquakes set : ℕ) : Type 0 where
  pub some : 0 < set
  pub together : Together combination winds earthquakes
