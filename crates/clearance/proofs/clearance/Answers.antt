-- Past the ranges the levels and the afflux are small enough, and each way out is one case of what is told.
use Rattle.std.proofs.Common.{◌≡◌, ◌≤◌, ℕ, subst}
use Rattle.arithmetic.proofs.Deciding.{decided, refuted}
use Rattle.kinds.specs.ranges.Range.{Ranged}
use Rattle.kinds.specs.declared.Kind.TheVariants.{C}
use Rattle.kinds.specs.declared.Numbers.{Numbers}
use Rattle.clearance.specs.declared.Opening.{Opening}
use Rattle.clearance.specs.Clear.{opening_of, ClearanceTold, Cleared, over_obstructed, clear}
use Rattle.clearance.specs.ClearanceRow.{ClearanceSays, out_of_range, in_range}
use Rattle.clearance.proofs.afflux.Bounds.{afflux_most}
use Rattle.clearance.proofs.Levels.{level_most}
use Rattle.clearance.proofs.clearance.Goals as goal

-- what the columns give is told of the row
says : {row : Numbers} {Q : ℕ} {opening : Opening} {t : ClearanceTold} → Ranged C row → opening ≡ opening_of row → Cleared opening Q t → ClearanceSays row Q t
says {Q = Q} {t = t} ranged e h = in_range ranged (subst (λ (o : Opening). Cleared o Q t) e h)

pub returns-then-not-is_ranged : goal.returns-then-not-is_ranged
returns-then-not-is_ranged c = out_of_range (refuted c.is_ranged.result c.if-not-is_ranged.true c.is_ranged.ensures)

pub returns-then-opening : goal.returns-then-opening
returns-then-opening c = says (decided c.is_ranged.result c.if-not-is_ranged.false c.is_ranged.ensures) c.from-opening.ensures (over_obstructed c.if-opening.true)

pub clearance_under-requires : goal.clearance_under-requires
clearance_under-requires c =
    let r : Ranged C c.args.row = decided c.is_ranged.result c.if-not-is_ranged.false c.is_ranged.ensures in
    let o = c.from-opening.result in
    let slow : o.velocity ≤ 10000 = rw c.from-opening.ensures r.n1.to in
    let whole : o.area ≤ 100000 = rw c.from-opening.ensures r.n2.to in
    let some : 1 ≤ o.obstructed = rw c.from-opening.ensures r.n3.from in
    let underside : o.underside.size ≤ 9000000 = rw c.from-opening.ensures (level_most _ r.n4) in
    let flood : o.flood.size ≤ 9000000 = rw c.from-opening.ensures (level_most _ r.n5) in
    (underside, flood, afflux_most _ _ _ _ slow whole some c.afflux-rise.ensures)

pub returns : goal.returns
returns c =
    says (decided c.is_ranged.result c.if-not-is_ranged.false c.is_ranged.ensures) c.from-opening.ensures
    (clear c.if-opening.false c.afflux-rise.ensures c.clearance_under.ensures c.clearance_needed.ensures)
