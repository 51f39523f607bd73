-- The lines are handed on untouched. Six answers joined say whether all of them say Y, and the verdict is about the answer that it stands in.
use mathlib.Core.Path.{refl}
use mathlib.Core.Bool.{Bool, ◌&&◌}
use Rattle.arithmetic.specs.decides.Decides.{Decides}
use Rattle.arithmetic.proofs.Deciding.{decided, refuted}
use Rattle.lines.specs.declared.Answer.{Answer}
use Rattle.lines.specs.declared.Verdict.{Verdict}
use Rattle.lines.specs.declared.Verdict.TheVariants.{Accepted, NotAccepted}
use Rattle.lines.specs.verdicts.Verdict.{AllYes}
use Rattle.lines.proofs.verdicts.Marking.{all_decided}
use borrow.Author.Rules.{rules}
use Rattle.lines.proofs.verdicts.judged.Statement.{statement}
use Rattle.lines.proofs.verdicts.judged.Tie as tie

lines-yes-requires : tie.Need-lines_yes-one_yes-requires
lines-yes-requires c κs = search rules

lines-yes-requires-2 : tie.Need-lines_yes-two_yes-requires
lines-yes-requires-2 c κs = search rules

lines-yes-requires-3 : tie.Need-lines_yes-three_yes-requires
lines-yes-requires-3 c κs = search rules

lines-yes-requires-4 : tie.Need-lines_yes-four_yes-requires
lines-yes-requires-4 c κs = search rules

river-yes-requires : tie.Need-river_yes-depth_yes-requires
river-yes-requires c κs = search rules

river-yes-requires-2 : tie.Need-river_yes-clear_yes-requires
river-yes-requires-2 c κs = search rules

module _ (c : tie.After-river_yes-clear_yes) where
  -- the lines with a verdict
  abbrev with : Verdict → Answer
  with v = let a = c.args in
      record { verdict = v; one = a.one; two = a.two; three = a.three; four = a.four; depth = a.depth; clear = a.clear }

  abbrev every : Bool
  every = ((((c.lines_yes-one_yes.result && c.lines_yes-two_yes.result) && c.lines_yes-three_yes.result) && c.lines_yes-four_yes.result) && c.river_yes-depth_yes.result) && c.river_yes-clear_yes.result

  all : (v : Verdict) → Decides every (AllYes (with v))
  all v =
      all_decided (with v) c.lines_yes-one_yes.result c.lines_yes-two_yes.result c.lines_yes-three_yes.result c.lines_yes-four_yes.result c.river_yes-depth_yes.result c.river_yes-clear_yes.result
      c.lines_yes-one_yes.ensures c.lines_yes-two_yes.ensures c.lines_yes-three_yes.ensures c.lines_yes-four_yes.ensures c.river_yes-depth_yes.ensures c.river_yes-clear_yes.ensures

returns : tie.Need-returns-then-one_yes-two_yes
returns c = record { one = refl; two = refl; three = refl; four = refl; depth = refl; clear = refl; verdict = decided (every c.before) c.if-one_yes-two_yes.true (all c.before Accepted) }

returns-2 : tie.Need-returns-else-one_yes-two_yes
returns-2 c = record { one = refl; two = refl; three = refl; four = refl; depth = refl; clear = refl; verdict = refuted (every c.before) c.if-one_yes-two_yes.false (all c.before NotAccepted) }

pub judged_spec : {M : Type 1} → statement M
judged_spec = tie.close (tie.spec lines-yes-requires lines-yes-requires-2 lines-yes-requires-3 lines-yes-requires-4 river-yes-requires river-yes-requires-2 returns returns-2)
