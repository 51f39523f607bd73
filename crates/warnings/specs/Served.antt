-- Where a refusal lies, "a job of which no service combination was checked", said of the job's loads (document 01, Load sets): "A combination with no
-- set is not checked."
use Rattle.std.specs.Prelude.{ℕ}
use Rattle.sets.specs.declared.Combination.{Combination}
use Rattle.sets.specs.declared.Combination.TheVariants.{I, II, III}
use Rattle.sets.specs.declared.Loads.{Loads}
use Rattle.sets.specs.Sets.{Permitted}

-- the combination has no set
abbrev pub NoSet : Combination → Loads → Type 0
NoSet combination loads = (set : ℕ) → Permitted combination loads set → ⊥

-- no service combination has one
pub record NoServiceSet (loads : Loads) : Type 0 where
  pub one : NoSet I loads
  pub two : NoSet II loads
  pub three : NoSet III loads
