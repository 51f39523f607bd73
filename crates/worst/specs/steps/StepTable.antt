-- What `table_of` answers: the table of a combination's steps beside some trains, as the program holds it: what adding and taking away each choosable row does, and the sums of the rows in every set.
use Rattle.std.specs.Prelude.{◌≡◌, ℕ, ◌+◌, ◌*◌, ◌^◌, ◌<◌}
use Rattle.sets.specs.declared.Combination.{Combination}
use Rattle.sets.specs.declared.Loads.{Loads}
use Rattle.sums.specs.steps.Sums.{zero_sums}
use Rattle.sums.specs.steps.Carried.{shift_of}
use Rattle.worst.specs.declared.choices.Stance.TheVariants.{Choosable}
use Rattle.worst.specs.steps.Stance.{choosable, fixed, row_terms, stance_at}
use Rattle.worst.specs.steps.Steps.{change_from}
use Rattle.worst.specs.declared.step_table.StepTable.{StepTable}
use Rattle.worst.specs.declared.trains.Trains.{Trains}

-- the entries of a choosable row stand at twice the number of choosable rows before it, and next to it
pub record TableIs (combination : Combination) (width : ℕ) (loads : Loads) (trains : Trains) (table : StepTable) : Type 0 where
  pub last : table.last + 1 ≡ 2 ^ choosable (stance_at combination loads trains) loads.count
  pub first : table.first ≡ shift_of (fixed (stance_at combination loads trains) (row_terms width loads) loads.count) zero_sums
  pub added : (i : ℕ) → i < loads.count → stance_at combination loads trains i ≡ Choosable → change_from table.steps (2 * choosable (stance_at combination loads trains) i) ≡ shift_of (row_terms width loads i) zero_sums
  pub taken : (i : ℕ) → i < loads.count → stance_at combination loads trains i ≡ Choosable → change_from table.steps (2 * choosable (stance_at combination loads trains) i + 1) ≡ shift_of zero_sums (row_terms width loads i)
