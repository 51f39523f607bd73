-- What `step_at` answers: what one row does, behind the rows before it (document 01, Refusals of a book).
use Rattle.std.specs.Prelude.{ℕ, ◌≡◌, Option, Some, None, Result, Ok, Err, List}
use Rattle.rows.specs.declared.refusals.Refusal.{Refusal}
use Rattle.rows.specs.declared.refusals.Refusal.TheVariants.{TooLong, NotCsv, NoForm, Misplaced, TooManyJobs, UsedKey}
use Rattle.rows.specs.Answer.{SeenAt}
use Rattle.rows.specs.declared.keys.Keyed.{Keyed}
use Rattle.jobs.specs.Place.{InPlace}
use Rattle.jobs.specs.Taking.{TakeTold, starts, joins, TakeSays}
use Rattle.jobs.specs.declared.Job.{Job}
use Rattle.jobs.specs.declared.Took.{Took}
use Rattle.jobs.specs.declared.Took.TheVariants.{Joined, Started}
use Rattle.book.specs.declared.step.Step.{Step}

-- a row out of place has a form, and no place in the job
pub record OutOfPlace (j : Job) (row : Option Keyed) : Type 0 where
  pub keyed : Keyed
  pub has_form : row ≡ Some keyed
  pub misplaced : InPlace j keyed → ⊥

-- a row is refused here with 3, without a form, or with 4, out of place, and with nothing else
abbrev pub RefusesRow : Job → Option Keyed → Refusal → Type 0
RefusesRow j row TooLong = ⊥
RefusesRow j row NotCsv = ⊥
RefusesRow j row NoForm = row ≡ None
RefusesRow j row Misplaced = OutOfPlace j row
RefusesRow j row TooManyJobs = ⊥
RefusesRow j row UsedKey = ⊥

-- a row that is taken has a form
pub record TakesRow (j : Job) (row : Option Keyed) (how : TakeTold) (next : Job) : Type 0 where
  pub keyed : Keyed
  pub has_form : row ≡ Some keyed
  pub taken : TakeSays j keyed how next

-- exactly when, and the job that comes of it: refused, the job as it stood
abbrev pub Goes : Job → Option Keyed → Result Took Refusal → Job → Type 0
Goes j row (Err why) next = RefusesRow j row why × (next ≡ j)
Goes j row (Ok Joined) next = TakesRow j row joins next
Goes j row (Ok Started) next = TakesRow j row starts next

-- the row that starts at a place: its form, if it has one; what it does; and where the next one starts
pub record StepIs (s : List ℕ) (start : ℕ) (j : Job) (t : Step) : Type 0 where
  pub row : Option Keyed
  pub seen : SeenAt s start (record { row = row; next = t.next })
  pub goes : Goes j row t.way t.job
