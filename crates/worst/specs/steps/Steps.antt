-- What `pass_over` answers: the table of steps, and where a walk by it comes to.
use Rattle.std.specs.Prelude.{◌≡◌, List, ℕ, zero, suc, ◌+◌, ◌*◌, ◌<◌, ◌≤◌, get_or}
use Rattle.sums.specs.declared.carried.Carried.{Carried}
use Rattle.sums.specs.steps.Carried.{moved}
use Rattle.weighing.specs.declared.bounds.Bounds.{Bounds}
use Rattle.weighing.specs.steps.Weighs.{SmallCarried}
use Rattle.weighing.specs.steps.Bounds.{Within}
use Rattle.worst.specs.declared.Standing.{Standing}
use Rattle.worst.specs.steps.Order.{changed, taken}

-- what stands in an entry that is not in use
abbrev pub no_change : Carried
no_change =
    record {
      n = 0;
      h = 0;
      m = 0;
      plus = record { resisting = 0; overturning = 0 };
      minus = record { resisting = 0; overturning = 0 };
      key = 0;
    }

unfoldable pub change_from : List Carried → ℕ → Carried
change_from t i = get_or t i no_change

-- ---- a walk by the table
-- the carried sums at step k: on the way to it the changed row is added or taken away
unfoldable pub reached : List Carried → Carried → ℕ → Carried
reached steps first zero = first
reached steps first (suc k) = moved (reached steps first k) (change_from steps (2 * changed (suc k) + taken (suc k)))

-- the walk has come to where it stands from some first sums, and all sums on its way are small
pub record Ahead (steps : List Carried) (last : ℕ) (at : Standing) : Type 0 where
  pub few : last < 65536
  pub first : Carried
  pub here : at.carried ≡ reached steps first at.step
  pub small : (k : ℕ) → k ≤ last → SmallCarried (reached steps first k)

-- it goes on to a step at or before the last, and what it passes over on the way is within the bounds
pub record Passed (steps : List Carried) (last width : ℕ) (bounds : Bounds) (from to : Standing) : Type 0 where
  pub onward : from.step < last → from.step < to.step
  pub ends : from.step ≤ last → to.step ≤ last
  pub here : (first : Carried) → from.carried ≡ reached steps first from.step → to.carried ≡ reached steps first to.step
  pub over : (first : Carried) → from.carried ≡ reached steps first from.step → (k : ℕ) → from.step < k → k < to.step → Within width bounds (reached steps first k)
