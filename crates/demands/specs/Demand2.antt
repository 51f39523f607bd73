-- Demand 2: each answer is the code's. It is said of the bytes that a call wrote for a job of a book.
use Rattle.std.specs.Prelude.{ℕ, ◌≡◌, List}
use Rattle.rows.specs.declared.keys.Key.{Key}
use Rattle.jobs.specs.declared.Job.{Job}
use Rattle.earth.specs.coefficients.Coefficients.{Coefficient}
use Rattle.csv_text.specs.Nth.{Nth}
use Rattle.sets.specs.declared.Combination.{Combination}
use Rattle.checks.specs.declared.Check.{Check}
use Rattle.lines.specs.declared.Verdict.TheVariants.{Accepted}
use Rattle.lines.specs.Lines.{PrintedLine, verdict_line}
use Rattle.answer.specs.Rules.{Unrefused}
use Rattle.printing.specs.Text.{line_text}
use Rattle.debtarush.specs.Lines.{LinesOf}
use Rattle.demands.specs.CheckLine.{Checked, HasLine}
use Rattle.demands.specs.EachLine.{LineTold}
use Rattle.demands.specs.Sound.{Sound}
use Rattle.demands.specs.Bytes.{CallWrote, StartsWith, Tells}

-- what is demanded of the bytes that a call wrote for a job
pub record CodeAnswer (fill : ℕ → ℕ → Coefficient) (job : Job) (bytes : List ℕ) : Type 0 where
  -- they are lines of the job's key: those of its answer
  pub told : (lines : List PrintedLine) × Tells bytes job.key lines × LinesOf fill job lines
  -- and no other key or lines can be read from them
  pub nothing_else : (key : Key) (lines : List PrintedLine) → Tells bytes key lines → (key ≡ job.key) × LinesOf fill job lines
  -- they begin with the key and VERDICT,A exactly if the job isn't refused and every check passes under every permitted set, and SC and CL pass
  pub accepted : StartsWith (line_text job.key (verdict_line Accepted)) bytes → Sound fill job
  pub accepts : Sound fill job → StartsWith (line_text job.key (verdict_line Accepted)) bytes
  -- each line of a check names a permitted set that reaches its figure, and no permitted set of its combination is worse; its eighth field says
  -- whether the figure of that set is exact, that of SC whether the 1.33 was, and that of CL whether the afflux was (02, P7)
  pub each : (key : Key) (lines : List PrintedLine) → Tells bytes key lines → (n : ℕ) (line : PrintedLine) → Nth lines n line → LineTold fill job line line.name
  -- and no check that a combination has, and under which a set is permitted, is left out
  pub shown : (key : Key) (lines : List PrintedLine) → Tells bytes key lines → Unrefused fill job
      → (combination : Combination) (of : Check) → Checked fill job combination of → HasLine lines combination of

-- whatever the fill books hold for the job's member
abbrev pub Demand2 : Type 0
Demand2 = (fill : ℕ → ℕ → Coefficient) (job : Job) (bytes : List ℕ) → CallWrote fill job bytes → CodeAnswer fill job bytes
