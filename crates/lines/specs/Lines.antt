-- Document 01, The printed answer: the lines of an answer, in their order. A line's key is the job's, and stands before each of them.
use Rattle.std.specs.Prelude.{ℕ, Bool, true, false, cond, List, [], ◌∷◌, ◌++◌}
use Rattle.arithmetic.specs.declared.signed.Amount.{Amount}
use Rattle.sets.specs.declared.Combination.{Combination}
use Rattle.sets.specs.declared.Combination.TheVariants.{I, II, III, IV}
use Rattle.checks.specs.declared.Check.{Check}
use Rattle.checks.specs.declared.Check.TheVariants.{OP, OM, SL, PR, RK}
use Rattle.checks.specs.declared.Figure.{Figure}
use Rattle.checks.specs.declared.Figure.TheVariants.{Nothing, Number, Off}
use Rattle.lines.specs.declared.Line.{Line}
use Rattle.lines.specs.declared.Line.TheVariants as line
use Rattle.lines.specs.declared.Lines.{Lines}
use Rattle.lines.specs.declared.Verdict.{Verdict}
use Rattle.lines.specs.declared.Verdict.TheVariants.{Accepted, NotAccepted, Refused}
use Rattle.lines.specs.declared.RiverLine.{RiverLine}
use Rattle.lines.specs.declared.RiverLine.TheVariants as river
use Rattle.lines.specs.declared.Answer.{Answer}

-- "line": VERDICT; a combination and a check, as in I-OP; SC; CL
pub data LineName : Type 0 where
  VERDICT : LineName
  check : Combination → Check → LineName
  SC : LineName
  CL : LineName

-- "value": A or N of a verdict, "none", "off", or a number, with a minus where it is below 0
pub data Value : Type 0 where
  accepted : Value
  not_accepted : Value
  none : Value
  off : Value
  number : ℕ → Value
  minus : ℕ → Value

-- "limit" and "set": empty, or a number
pub data NumberField : Type 0 where
  empty : NumberField
  holds : ℕ → NumberField

-- "Y or N": empty in VERDICT
pub data YesOrNo : Type 0 where
  unmarked : YesOrNo
  Y : YesOrNo
  N : YesOrNo

-- 02, P7, "E or R": empty where the value is no number
pub data ExactOrRounded : Type 0 where
  unsaid : ExactOrRounded
  E : ExactOrRounded
  R : ExactOrRounded

-- "Seven fields: member, job, line, value, limit, set, Y or N", and 02, P7: "an eighth field, E or R": the six behind the key
pub record PrintedLine : Type 0 where
  pub name : LineName
  pub value : Value
  pub limit : NumberField
  pub set : NumberField
  pub mark : YesOrNo
  pub exactness : ExactOrRounded

unfoldable pub mark_of : Bool → YesOrNo
mark_of true = Y
mark_of false = N

unfoldable pub exactness_of : Bool → ExactOrRounded
exactness_of true = E
exactness_of false = R

-- 02, P7: "each line with a numeric value gains an eighth field"; "Words .. have it empty."
unfoldable pub figure_exactness : Figure → Bool → ExactOrRounded
figure_exactness Nothing exact = unsaid
figure_exactness (Number n) exact = exactness_of exact
figure_exactness Off exact = unsaid

unfoldable pub value_of : Figure → Value
value_of Nothing = none
value_of (Number n) = number n
value_of Off = off

unfoldable pub signed_value : Amount → Value
signed_value a = cond a.minus (minus a.size) (number a.size)

-- "with A, N or the refusal"
unfoldable pub verdict_value : Verdict → Value
verdict_value Accepted = accepted
verdict_value NotAccepted = not_accepted
verdict_value (Refused n) = number n

-- "VERDICT comes first, with A, N or the refusal and the rest empty.", the eighth field too (02, P7)
unfoldable pub verdict_line : Verdict → PrintedLine
verdict_line verdict = record { name = VERDICT; value = verdict_value verdict; limit = empty; set = empty; mark = unmarked; exactness = unsaid }

-- value, limit, set, Y or N, E or R of a check in a combination
unfoldable pub shown_line : Combination → Check → Figure → (limit set : ℕ) → (passes exact : Bool) → PrintedLine
shown_line combination of figure limit set passes exact =
    record { name = check combination of; value = value_of figure; limit = holds limit; set = holds set; mark = mark_of passes; exactness = figure_exactness figure exact }

-- the line of a check in a combination, where it applies
unfoldable pub check_line : Combination → Check → Line → List PrintedLine
check_line combination of line.Missing = []
check_line combination of (line.Shown figure limit set passes exact) = shown_line combination of figure limit set passes exact ∷ []

-- "for each checked combination .. OP, OM, SL, PR, RK as they apply"
unfoldable pub combination_lines : Combination → Lines → List PrintedLine
combination_lines combination lines =
    check_line combination OP lines.op
    ++ (check_line combination OM lines.om
    ++ (check_line combination SL lines.sl
    ++ (check_line combination PR lines.pr
    ++ check_line combination RK lines.rk)))

-- "SC (.. value needed, limit found)", "CL (.. value underside - flood - afflux)", limit the clearance needed. "SC and CL have no set."
unfoldable pub river_shown : LineName → Amount → (limit : ℕ) → (passes exact : Bool) → PrintedLine
river_shown name value limit passes exact =
    record { name = name; value = signed_value value; limit = holds limit; set = empty; mark = mark_of passes; exactness = exactness_of exact }

unfoldable pub river_line : LineName → RiverLine → List PrintedLine
river_line name river.Missing = []
river_line name (river.Shown value limit passes exact) = river_shown name value limit passes exact ∷ []

-- "Then for each checked combination, I to IV, .. SC .., CL"
unfoldable pub later_lines : Answer → List PrintedLine
later_lines answer =
    combination_lines I answer.one
    ++ (combination_lines II answer.two
    ++ (combination_lines III answer.three
    ++ (combination_lines IV answer.four
    ++ (river_line SC answer.depth
    ++ river_line CL answer.clear))))

-- "A refused job has only VERDICT."
unfoldable pub unless_refused : Verdict → List PrintedLine → List PrintedLine
unless_refused Accepted later = later
unless_refused NotAccepted later = later
unless_refused (Refused n) later = []

unfoldable pub lines_of : Answer → List PrintedLine
lines_of answer = verdict_line answer.verdict ∷ unless_refused answer.verdict (later_lines answer)

-- no lines of a combination
abbrev pub no_lines : Lines
no_lines = record { op = line.Missing; om = line.Missing; sl = line.Missing; pr = line.Missing; rk = line.Missing }
