-- Each way out is one case of what is told.
use Rattle.std.proofs.Common.{◌≡◌, subst}
use Rattle.arithmetic.proofs.Deciding.{decided, refuted}
use Rattle.kinds.specs.ranges.Range.{Ranged}
use Rattle.kinds.specs.declared.Kind.TheVariants.{W}
use Rattle.kinds.specs.declared.Numbers.{Numbers}
use Rattle.current.specs.Current.{CurrentTold, CurrentRule, shaft_in, upper_below_lower, pushes}
use Rattle.current.specs.CurrentRow.{CurrentSays, out_of_range, in_range}
use Rattle.current.specs.declared.Shaft.{Shaft}
use Rattle.current.proofs.pressure.Goals as goal

-- what the columns give is told of the row
says : {row : Numbers} {shaft : Shaft} {t : CurrentTold} → Ranged W row → shaft ≡ shaft_in row → CurrentRule shaft t → CurrentSays row t
says {t = t} ranged e h = in_range ranged (subst (λ (s : Shaft). CurrentRule s t) e h)

pub returns-then-not-is_ranged : goal.returns-then-not-is_ranged
returns-then-not-is_ranged c = out_of_range (refuted c.is_ranged.result c.if-not-is_ranged.true c.is_ranged.ensures)

pub returns-then-shaft : goal.returns-then-shaft
returns-then-shaft c = says (decided c.is_ranged.result c.if-not-is_ranged.false c.is_ranged.ensures) c.from-shaft.ensures (upper_below_lower c.if-shaft.true)

pub returns : goal.returns
returns c =
    let s = c.from-shaft.result in
    says (decided c.is_ranged.result c.if-not-is_ranged.false c.is_ranged.ensures) c.from-shaft.ensures
    (pushes c.if-shaft.false (rw (← c.constant_of-k.ensures) c.force_of.ensures) c.arm_of.ensures)
