-- Document 01, The printed answer: the verdict of lines.
use Rattle.std.specs.Prelude.{◌≡◌, true}
use Rattle.lines.specs.declared.Line.{Line}
use Rattle.lines.specs.declared.Line.TheVariants as line
use Rattle.lines.specs.declared.Lines.{Lines}
use Rattle.lines.specs.declared.Verdict.{Verdict}
use Rattle.lines.specs.declared.Verdict.TheVariants.{Accepted, NotAccepted, Refused}
use Rattle.lines.specs.declared.RiverLine.{RiverLine}
use Rattle.lines.specs.declared.RiverLine.TheVariants as river
use Rattle.lines.specs.declared.Answer.{Answer}

-- a line says Y; where there is no line, nothing says N
abbrev pub LineYes : Line → Type 0
LineYes line.Missing = Unit {0}
LineYes (line.Shown figure limit set passes exact) = passes ≡ true

pub record LinesYes (lines : Lines) : Type 0 where
  pub op : LineYes lines.op
  pub om : LineYes lines.om
  pub sl : LineYes lines.sl
  pub pr : LineYes lines.pr
  pub rk : LineYes lines.rk

abbrev pub RiverYes : RiverLine → Type 0
RiverYes river.Missing = Unit {0}
RiverYes (river.Shown value limit passes exact) = passes ≡ true

-- every line after VERDICT says Y
pub record AllYes (a : Answer) : Type 0 where
  pub one : LinesYes a.one
  pub two : LinesYes a.two
  pub three : LinesYes a.three
  pub four : LinesYes a.four
  pub depth : RiverYes a.depth
  pub clear : RiverYes a.clear

-- "A is given exactly if the job isn't refused and every line after VERDICT says Y"
abbrev pub VerdictIs : Verdict → Answer → Type 0
VerdictIs Accepted a = AllYes a
VerdictIs NotAccepted a = AllYes a → ⊥
VerdictIs (Refused n) a = ⊥
