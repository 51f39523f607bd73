-- Document 01, The printed answer: what `judged` answers.
use Rattle.std.specs.Prelude.{◌≡◌}
use Rattle.lines.specs.declared.Lines.{Lines}
use Rattle.lines.specs.declared.RiverLine.{RiverLine}
use Rattle.lines.specs.declared.Answer.{Answer}
use Rattle.lines.specs.verdicts.Verdict.{VerdictIs}

-- the answer of these lines: the lines themselves, and their verdict
pub record Judged (l1 l2 l3 l4 : Lines) (d c : RiverLine) (a : Answer) : Type 0 where
  pub one : a.one ≡ l1
  pub two : a.two ≡ l2
  pub three : a.three ≡ l3
  pub four : a.four ≡ l4
  pub depth : a.depth ≡ d
  pub clear : a.clear ≡ c
  pub verdict : VerdictIs a.verdict a
