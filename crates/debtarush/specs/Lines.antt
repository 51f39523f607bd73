-- Document 01, The printed answer: the lines of a job, which are those of its answer, and their bytes.
use Rattle.std.specs.Prelude.{ℕ, ◌≡◌, List}
use Rattle.jobs.specs.declared.Job.{Job}
use Rattle.earth.specs.coefficients.Coefficients.{Coefficient}
use Rattle.fills.specs.Says.{FillFor}
use Rattle.lines.specs.declared.Answer.{Answer}
use Rattle.lines.specs.Lines.{PrintedLine, lines_of}
use Rattle.answer.specs.Answer.{AnswerIs}
use Rattle.printing.specs.Text.{texts}

-- the lines are those of the job's answer
pub record LinesOf (fill : ℕ → ℕ → Coefficient) (job : Job) (lines : List PrintedLine) : Type 0 where
  pub answer : Answer
  pub is : AnswerIs fill job answer
  pub are : lines ≡ lines_of answer

-- the bytes of a job's lines
pub record TextOf (fill : ℕ → ℕ → Coefficient) (job : Job) (t : List ℕ) : Type 0 where
  pub lines : List PrintedLine
  pub is : LinesOf fill job lines
  pub are : t ≡ texts job.key lines

-- the bytes of a job's lines, with what two accepted fill books hold for its member. Document 02, P4: "From here a job's answer also depends on
-- its own member's rows and the common ones"
pub record JobText (own common : List ℕ) (job : Job) (t : List ℕ) : Type 0 where
  pub fill : ℕ → ℕ → Coefficient
  pub fills : FillFor own common job.key.member fill
  pub text : TextOf fill job t
