-- Document 01, Load sets and The printed answer: what is demanded of a printed line of a check: that it names its set, and that none is left out.
use Rattle.std.specs.Prelude.{ℕ, ◌≡◌, Bool, List}
use Rattle.jobs.specs.declared.Job.{Job}
use Rattle.csv_text.specs.Nth.{Nth}
use Rattle.earth.specs.coefficients.Coefficients.{Coefficient}
use Rattle.sets.specs.declared.Combination.{Combination}
use Rattle.sets.specs.declared.Loads.{Loads}
use Rattle.sets.specs.Sets.{Permitted}
use Rattle.checks.specs.declared.Check.{Check}
use Rattle.checks.specs.declared.Figure.{Figure}
use Rattle.checks.specs.limits.Limits.{Limit}
use Rattle.worst.specs.Lines.{CheckShown}
use Rattle.loads.specs.LoadRows.{AreLoads}
use Rattle.lines.specs.Lines.{PrintedLine, check, shown_line}
use Rattle.answer.specs.Rules.{load_rows_of, Unrefused}
use Rattle.answer.specs.Columns.{base_of}

-- its job isn't refused; it shows the figure of the permitted set that it names, beside the limit; no permitted set is worse; and a number has E
-- exactly if the figure of that set is exact, else R (`CheckShown`)
pub record NamesSet (fill : ℕ → ℕ → Coefficient) (job : Job) (combination : Combination) (of : Check) (line : PrintedLine) : Type 0 where
  pub unrefused : Unrefused fill job
  pub loads : Loads
  pub are : AreLoads fill (load_rows_of job) loads
  pub figure : Figure
  pub limit : ℕ
  pub set : ℕ
  pub passes : Bool
  pub exact : Bool
  pub shown : CheckShown combination of (base_of job.base) loads figure limit set passes exact
  pub is : line ≡ shown_line combination of figure limit set passes exact

-- the combination has the check, by its limit, and permits a set of the job's loads
pub record Checked (fill : ℕ → ℕ → Coefficient) (job : Job) (combination : Combination) (of : Check) : Type 0 where
  pub loads : Loads
  pub are : AreLoads fill (load_rows_of job) loads
  pub limit : ℕ
  pub limited : Limit combination of (base_of job.base) limit
  pub set : ℕ
  pub permitted : Permitted combination loads set

-- one of the lines is that of the check in the combination
pub record HasLine (lines : List PrintedLine) (combination : Combination) (of : Check) : Type 0 where
  pub place : ℕ
  pub line : PrintedLine
  pub at : Nth lines place line
  pub is : line.name ≡ check combination of
