-- The set numbers of a job's lines, from which `answer_text` knows that nothing is cut.
use Rattle.std.specs.Prelude.{◌<◌}
use Rattle.lines.specs.declared.Line.{Line}
use Rattle.lines.specs.declared.Line.TheVariants as line
use Rattle.lines.specs.declared.Lines.{Lines}
use Rattle.lines.specs.declared.Answer.{Answer}

-- A set number of 16 load rows is below 65,536.
unfoldable pub SetFits : Line → Type 0
SetFits line.Missing = Unit {0}
SetFits (line.Shown figure limit set passes exact) = set < 65536

pub record SetsFit (lines : Lines) : Type 0 where
  pub op : SetFits lines.op
  pub om : SetFits lines.om
  pub sl : SetFits lines.sl
  pub pr : SetFits lines.pr
  pub rk : SetFits lines.rk

-- the set numbers of a job's lines, each one's combination over at most 16 load rows
pub record Numbered (answer : Answer) : Type 0 where
  pub one : SetsFit answer.one
  pub two : SetsFit answer.two
  pub three : SetsFit answer.three
  pub four : SetsFit answer.four
