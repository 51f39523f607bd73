-- A combination that no row raises has no permitted set, so that every line of it is missing; of one that arises, each line is told by the
-- set that the walk found for its check.
use borrow.Author.Rules.{rules}
use mathlib.Core.Path.{subst⁻¹}
use Rattle.arithmetic.proofs.Deciding.{decided, refuted}
use Rattle.sets.specs.declared.Combination.{Combination}
use Rattle.sets.specs.declared.Loads.{Loads}
use Rattle.sets.specs.steps.Deciding.{Arises}
use Rattle.sets.proofs.Occasions.{permitted_arises}
use Rattle.checks.specs.declared.Base.{Base}
use Rattle.checks.specs.declared.Check.{Check}
use Rattle.checks.specs.declared.Check.TheVariants.{OP, OM, SL, PR, RK}
use Rattle.lines.specs.declared.Lines.{Lines}
use Rattle.lines.specs.Lines.{no_lines}
use Rattle.worst.specs.Lines.{LineSays, line}
use Rattle.weighing.specs.steps.Weighs.{ranked_of}
use Rattle.worst.proofs.worst_lines.Statement.{statement}
use Rattle.worst.proofs.worst_lines.Tie as tie

module _ (combination : Combination) (base : Base) (loads : Loads) where
  -- a combination that no row raises has no line
  all_missing : (Arises combination loads → ⊥) → (check : Check) → LineSays combination check base loads (line check no_lines)
  unfolding LineSays line
  all_missing n OP = λ limit h set p. n (permitted_arises loads combination set p)
  all_missing n OM = λ limit h set p. n (permitted_arises loads combination set p)
  all_missing n SL = λ limit h set p. n (permitted_arises loads combination set p)
  all_missing n PR = λ limit h set p. n (permitted_arises loads combination set p)
  all_missing n RK = λ limit h set p. n (permitted_arises loads combination set p)

  -- the lines, check by check
  each : (r : Lines) → LineSays combination OP base loads r.op → LineSays combination OM base loads r.om → LineSays combination SL base loads r.sl
      → LineSays combination PR base loads r.pr → LineSays combination RK base loads r.rk → (check : Check) → LineSays combination check base loads (line check r)
  unfolding line
  each r op om sl pr rk OP = op
  each r op om sl pr rk OM = om
  each r op om sl pr rk SL = sl
  each r op om sl pr rk PR = pr
  each r op om sl pr rk RK = rk

arises-requires : tie.Need-arises-requires
arises-requires c κs = search rules

no-lines-requires : tie.Need-no_lines-requires
no-lines-requires c κs = search rules

returns : tie.Need-returns-then-not-arises
returns c =
    let a = c.args in
    subst⁻¹ (λ (r : Lines). (check : Check) → LineSays a.combination check a.base a.loads (line check r)) c.no_lines.ensures
    (all_missing a.combination a.base a.loads (refuted c.arises.result c.if-not-arises.true c.arises.ensures))

walk-requires : tie.Need-walk-worst-requires
walk-requires c κs =
    (c.requires.0, (c.requires.1.0, (c.requires.1.1, decided c.arises.result c.if-not-arises.false c.arises.ensures)))

line-at-requires : tie.Need-line_at-requires
unfolding ranked_of
line-at-requires c κs =
    let walked = c.walk-worst.ensures in
    let asked = c.requires in
    (asked.0, (asked.1.0, (walked.has OP, walked.found OP)))

line-at-requires-2 : tie.Need-line_at-requires-2
unfolding ranked_of
line-at-requires-2 c κs =
    let walked = c.walk-worst.ensures in
    let asked = c.requires in
    (asked.0, (asked.1.0, (walked.has OM, walked.found OM)))

line-at-requires-3 : tie.Need-line_at-requires-3
unfolding ranked_of
line-at-requires-3 c κs =
    let walked = c.walk-worst.ensures in
    let asked = c.requires in
    (asked.0, (asked.1.0, (walked.has SL, walked.found SL)))

line-at-requires-4 : tie.Need-line_at-requires-4
unfolding ranked_of
line-at-requires-4 c κs =
    let walked = c.walk-worst.ensures in
    let asked = c.requires in
    (asked.0, (asked.1.0, (walked.has PR, walked.found PR)))

line-at-requires-5 : tie.Need-line_at-requires-5
unfolding ranked_of
line-at-requires-5 c κs =
    let walked = c.walk-worst.ensures in
    let asked = c.requires in
    (asked.0, (asked.1.0, (walked.has RK, walked.found RK)))

returns-2 : tie.Need-returns
unfolding line
returns-2 c =
    let a = c.args in
    each a.combination a.base a.loads _ c.line_at.ensures c.line_at-2.ensures c.line_at-3.ensures c.line_at-4.ensures
    c.line_at-5.ensures

pub worst_lines_spec : {M : Type 1} → statement M
worst_lines_spec = tie.close (tie.spec arises-requires no-lines-requires returns walk-requires line-at-requires line-at-requires-2 line-at-requires-3 line-at-requires-4 line-at-requires-5 returns-2)
