-- Document 01, The printed answer, and 02, P7: what is demanded of each printed line, by its name.
use Rattle.std.specs.Prelude.{ℕ, ◌≡◌, Bool}
use Rattle.arithmetic.specs.declared.signed.Amount.{Amount}
use Rattle.jobs.specs.declared.Job.{Job}
use Rattle.earth.specs.coefficients.Coefficients.{Coefficient}
use Rattle.lines.specs.Lines.{LineName, VERDICT, check, SC, CL, PrintedLine, unsaid, river_shown}
use Rattle.answer.specs.river.River.{DepthShown, ClearShown}
use Rattle.demands.specs.CheckLine.{NamesSet}

-- SC shows the depth needed beside the depth found, and E exactly if the rounding of the 1.33 was exact, else R (`DepthShown`)
pub record DepthLine (job : Job) (line : PrintedLine) : Type 0 where
  pub depth : Amount
  pub found : ℕ
  pub passes : Bool
  pub exact : Bool
  pub shown : DepthShown job depth found passes exact
  pub is : line ≡ river_shown SC depth found passes exact

-- CL shows underside - flood - afflux beside the clearance needed, and E exactly if the rounding of the afflux was exact, else R (`ClearShown`)
pub record ClearLine (job : Job) (line : PrintedLine) : Type 0 where
  pub clearance : Amount
  pub needed : ℕ
  pub passes : Bool
  pub exact : Bool
  pub shown : ClearShown job clearance needed passes exact
  pub is : line ≡ river_shown CL clearance needed passes exact

-- VERDICT has its eighth field empty, and the line of a check names its set
abbrev pub LineTold : (ℕ → ℕ → Coefficient) → Job → PrintedLine → LineName → Type 0
LineTold fill job line VERDICT = line.exactness ≡ unsaid
LineTold fill job line (check combination of) = NamesSet fill job combination of line
LineTold fill job line SC = DepthLine job line
LineTold fill job line CL = ClearLine job line
