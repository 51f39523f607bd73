-- What `scour_gives` and `is_obstructed` answer, and what `shows` asks.
use Rattle.std.specs.Prelude.{ℕ, ◌<◌, ◌≡◌}
use Rattle.kinds.specs.declared.Numbers.{Numbers}
use Rattle.kinds.specs.declared.Row.{Row}
use Rattle.kinds.specs.ranges.Range.{Ranged}
use Rattle.jobs.specs.declared.Job.{Job}
use Rattle.jobs.specs.declared.stages.Stage.{Stage}
use Rattle.jobs.specs.stages.Rows.{HasScour, HasClearance}
use Rattle.scour.specs.Scour as scour
use Rattle.clearance.specs.Clear.{opening_of}
use Rattle.answer.specs.Rules.{AllInRange}
use Rattle.job_faults.specs.declared.rules.Rule.{Rule}
use Rattle.job_faults.specs.declared.rules.Rule.TheVariants as rules

-- the S row that there is gives a refusal
pub record Gives (stage : Stage) (numbers : Numbers) (n : ℕ) : Type 0 where
  pub has : HasScour stage
  pub says : scour.ScourRule (scour.waterway_in numbers) (scour.refused n)

-- the C row that there is has a above A
pub record Obstructed (stage : Stage) (numbers : Numbers) : Type 0 where
  pub has : HasClearance stage
  pub above : (opening_of numbers).area < (opening_of numbers).obstructed

-- past 11, every number is in its range
pub record Past (job : Job) (row : Row) : Type 0 where
  pub job_ranged : AllInRange job
  pub row_ranged : Ranged row.kind row.numbers

abbrev pub PastRange : Rule → Type 0 → Type 0
PastRange r P = (r ≡ rules.OutOfRange → ⊥) → P
