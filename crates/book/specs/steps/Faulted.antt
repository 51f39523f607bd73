-- What `rule_at`, `river_count` and `earlier_row` answer, and what the last is given.
use Rattle.std.specs.Prelude.{ℕ, Option, ◌+◌, ◌≤◌, ◌≡◌, List, ◌∷◌, length, drop}
use Rattle.csv_text.specs.rfc4180.Rfc4180.{Cell, File}
use Rattle.rows.specs.Form.{BookRow, Form}
use Rattle.rows.specs.declared.keys.Key.{Key}
use Rattle.jobs.specs.misplaced.Placing.{PlacingIs}
use Rattle.jobs.specs.declared.Job.{Job}
use Rattle.jobs.specs.declared.misplaced.Misplaced.{Misplaced}
use Rattle.jobs.specs.declared.stages.Stage.{Stage}
use Rattle.jobs.specs.declared.stages.Stage.TheVariants.{Unbegun, Dry, Scoured, Crossed}
use Rattle.book.specs.JobBook.{Jobs, count, rows_of, Used}
use Rattle.book.specs.counted.Places.{places}
use Rattle.book.specs.Values.{values}

-- of the row that starts at a place, where it has a form
abbrev pub RuleAt : List ℕ → ℕ → Job → Option Misplaced → Type 0
RuleAt s at j p = (cs : List Cell) (css : List (List Cell)) (r : BookRow) → File (drop at s) (cs ∷ css) → Form cs r → PlacingIs j r.keyed p

abbrev pub rows_in_river : Stage → ℕ
rows_in_river Unbegun = 0
rows_in_river Dry = 0
rows_in_river Scoured = 1
rows_in_river Crossed = 2

-- the jobs so far, one of which has a row's key; `row` is one past their rows
pub record UsedAmong (jobs : List Job) (n row : ℕ) (key : Key) : Type 0 where
  pub of : BookRow
  pub written : Jobs
  pub many : n ≡ count written
  pub few : n ≤ 64
  pub held : jobs ≡ places (values written)
  pub past : row ≡ length (rows_of written) + 1
  pub is : key ≡ of.keyed.key
  pub used : Used of written
