-- Document 01, The printed answer: "A is given exactly if the job isn't refused and every line after VERDICT says Y", said of the job and of its permitted sets.
use Rattle.std.specs.Prelude.{ℕ}
use Rattle.jobs.specs.declared.Job.{Job}
use Rattle.earth.specs.coefficients.Coefficients.{Coefficient}
use Rattle.sets.specs.declared.Combination.{Combination}
use Rattle.sets.specs.declared.Loads.{Loads}
use Rattle.sets.specs.Sets.{Permitted}
use Rattle.checks.specs.declared.Base.{Base}
use Rattle.checks.specs.declared.Check.{Check}
use Rattle.checks.specs.declared.Figure.{Figure}
use Rattle.checks.specs.set_figures.Figures.{Shows}
use Rattle.checks.specs.Order.{side}
use Rattle.checks.specs.limits.Limits.{Limit}
use Rattle.checks.specs.passing.Passing.{Passes}
use Rattle.loads.specs.LoadRows.{AreLoads}
use Rattle.lines.specs.declared.RiverLine.{RiverLine}
use Rattle.lines.specs.verdicts.Verdict.{RiverYes}
use Rattle.answer.specs.river.River.{DepthIs, ClearIs}
use Rattle.answer.specs.Rules.{load_rows_of, Unrefused}
use Rattle.answer.specs.Columns.{base_of}

-- every check of every combination passes under every permitted set
abbrev pub Bears : Base → Loads → Type 0
Bears base loads = (combination : Combination) (check : Check) (limit : ℕ) → Limit combination check base limit → (set : ℕ) (figure : Figure) → Permitted combination loads set
    → Shows check base loads set figure → Passes (side check) limit figure

-- the line SC or CL of a job says Y; where the job has none, nothing says N
pub record SaysYes (Is : RiverLine → Type 0) : Type 0 where
  pub line : RiverLine
  pub is : Is line
  pub yes : RiverYes line

pub record Sound (fill : ℕ → ℕ → Coefficient) (job : Job) : Type 0 where
  pub unrefused : Unrefused fill job
  pub loads : Loads
  pub are : AreLoads fill (load_rows_of job) loads
  pub bears : Bears (base_of job.base) loads
  pub depth : SaysYes (DepthIs job)
  pub clear : SaysYes (ClearIs job)
