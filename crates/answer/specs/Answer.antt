-- Document 01, The printed answer: what a job is answered, from the job and `fill` alone.
use Rattle.std.specs.Prelude.{ℕ, ◌≡◌}
use Rattle.jobs.specs.declared.Job.{Job}
use Rattle.earth.specs.coefficients.Coefficients.{Coefficient}
use Rattle.sets.specs.declared.Combination.{Combination}
use Rattle.sets.specs.declared.Combination.TheVariants.{I, II, III, IV}
use Rattle.sets.specs.declared.Loads.{Loads}
use Rattle.checks.specs.declared.Base.{Base}
use Rattle.checks.specs.declared.Check.{Check}
use Rattle.lines.specs.declared.Lines.{Lines}
use Rattle.lines.specs.Lines.{no_lines}
use Rattle.worst.specs.Lines as worst
use Rattle.loads.specs.LoadRows.{AreLoads}
use Rattle.lines.specs.declared.Verdict.TheVariants.{Refused}
use Rattle.lines.specs.declared.RiverLine.TheVariants.{Missing}
use Rattle.lines.specs.declared.Answer.{Answer}
use Rattle.lines.specs.verdicts.Verdict.{VerdictIs}
use Rattle.answer.specs.Columns.{base_of}
use Rattle.answer.specs.river.River.{DepthIs, ClearIs}
use Rattle.answer.specs.Rules.{load_rows_of, Refuses, Unrefused}

-- the lines of a combination are those of its checks
abbrev pub LinesAre : Combination → Base → Loads → Lines → Type 0
LinesAre combination base loads lines = (check : Check) → worst.LineSays combination check base loads (worst.line check lines)

-- the lines of a job that is not refused
pub record LinesGiven (fill : ℕ → ℕ → Coefficient) (job : Job) (a : Answer) : Type 0 where
  pub unrefused : Unrefused fill job
  pub loads : Loads
  pub are : AreLoads fill (load_rows_of job) loads
  pub one : LinesAre I (base_of job.base) loads a.one
  pub two : LinesAre II (base_of job.base) loads a.two
  pub three : LinesAre III (base_of job.base) loads a.three
  pub four : LinesAre IV (base_of job.base) loads a.four
  pub depth : DepthIs job a.depth
  pub clear : ClearIs job a.clear
  pub verdict : VerdictIs a.verdict a

-- "A refused job has only VERDICT."
abbrev pub refusal : ℕ → Answer
refusal n = record { verdict = Refused n; one = no_lines; two = no_lines; three = no_lines; four = no_lines; depth = Missing; clear = Missing }

-- "A, N or the refusal": a refused job's answer is its refusal, any other's its lines, with A or N
pub data AnswerIs (fill : ℕ → ℕ → Coefficient) (job : Job) (a : Answer) : Type 0 where
  refused : {n : ℕ} → Refuses fill job n → a ≡ refusal n → AnswerIs fill job a
  answered : LinesGiven fill job a → AnswerIs fill job a
