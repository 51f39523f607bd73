-- What `whole` answers.
use Rattle.std.specs.Prelude.{◌≡◌}
use Rattle.sets.specs.declared.Combination.TheVariants.{I, II, III, IV}
use Rattle.sets.specs.declared.Loads.{Loads}
use Rattle.checks.specs.declared.Base.{Base}
use Rattle.lines.specs.declared.RiverLine.{RiverLine}
use Rattle.lines.specs.declared.Answer.{Answer}
use Rattle.lines.specs.verdicts.Verdict.{VerdictIs}
use Rattle.answer.specs.Answer.{LinesAre}

-- the lines of loads, beside those of the river: what the last step of the code answers
pub record WholeIs (base : Base) (loads : Loads) (d c : RiverLine) (a : Answer) : Type 0 where
  pub one : LinesAre I base loads a.one
  pub two : LinesAre II base loads a.two
  pub three : LinesAre III base loads a.three
  pub four : LinesAre IV base loads a.four
  pub depth : a.depth ≡ d
  pub clear : a.clear ≡ c
  pub verdict : VerdictIs a.verdict a
