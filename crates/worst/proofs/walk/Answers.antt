-- Way by way the worst so far is that of all sets gone through; at the end these are all choices beside all trains.
use Rattle.std.proofs.Common.{◌≡◌, ◌-◌, ◌^◌, ◌≤◌, ◌<◌, refl, ◌∙◌, subst, sym, lit<, lit≤, arith}
use Rattle.checks.specs.declared.Check.{Check}
use Rattle.checks.specs.declared.Check.TheVariants.{OP, OM, SL, PR, RK}
use Rattle.weighing.specs.declared.Worst.{Worst}
use Rattle.weighing.specs.declared.ranked.RankedSet.{RankedSet}
use Rattle.weighing.specs.steps.Weighs.{ranked_of, Low, Words}
use Rattle.worst.proofs.choices.Beside.{trains_in}
use Rattle.worst.proofs.Walking.{one_way, all_found, nothing_passed}
use Rattle.worst.proofs.walk.Goals as goal

-- ---- nothing weighed yet
none : RankedSet
none = record { rank = 2 ^ 64 - 1; set = 0 }

unweighed : Worst
unweighed = record { op = none; om = none; sl = none; pr = none; rk = none }

none_yet : (check : Check) → ranked_of check unweighed ≡ none
unfolding unweighed ranked_of
none_yet OP = refl
none_yet OM = refl
none_yet SL = refl
none_yet PR = refl
none_yet RK = refl

none_low : Low unweighed
unfolding none Low
none_low check = subst (λ (m : RankedSet). m.set < 65536) (sym (none_yet check)) (lit< tt)

none_words : Words unweighed
unfolding none
none_words check = subst (λ (m : RankedSet). m.rank ≤ 2 ^ 64 - 1) (sym (none_yet check)) (lit≤ tt)

pub loop-way-init : goal.loop-way-init
unfolding unweighed none
loop-way-init c =
    let r = c.requires in
    (none_low, none_words, nothing_passed _ _ _ r.sized r.bounded r.led r.arises _ c.leaders_of-leaders.ensures _ none unweighed refl none_yet)

pub loop-way-preserved : goal.loop-way-preserved
unfolding none trains_in
loop-way-preserved c =
    let r = c.requires in
    let w = c.walk_choices-worst.ensures in
    (w.low, w.words, one_way _ _ _ r.sized r.bounded r.led r.arises _ c.leaders_of-leaders.ensures _ none _ (rw (← c.present_in.ensures) w) c.loop-way.invariant.2)

pub returns : goal.returns
unfolding none
returns c =
    let r = c.requires in
    let n : c.loop-way.way ≡ c.ways_of-ways.result = omega arith in
    all_found c.args.combination c.args.base c.args.loads r.sized r.bounded r.led r.arises _ c.leaders_of-leaders.ensures _ _ none _
    (n ∙ c.ways_of-ways.ensures) refl refl c.serves-serves.ensures c.loop-way.invariant.2
