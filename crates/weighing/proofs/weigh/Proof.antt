-- Each check by the worse of its own two, at N, H and M read back, or left as it was.
use borrow.Author.Rules.{rules}
use native.Mathlib.Omega.{arith}
use mathlib.Core.Path.{◌≡◌, refl, sym, ◌∙◌, subst, subst⁻¹, subst₂}
use mathlib.Core.Bool.{Bool, true, false, true≢false}
use Prim.Native.Nat.{ℕ, ◌^◌, ◌<◌, ◌≤◌}
use Rattle.sums.specs.declared.carried.Carried.{Carried}
use Rattle.sums.specs.steps.Carried.{over_zero, from_zero, carried_set}
use Rattle.checks.specs.declared.Base.{Base}
use Rattle.checks.specs.declared.Check.{Check}
use Rattle.checks.specs.declared.Check.TheVariants.{OP, OM, SL, PR, RK}
use Rattle.checks.specs.steps.Rounded.{Presses, Slides, Leans}
use Rattle.checks.specs.declared.Figure.{Figure}
use Rattle.checks.specs.Order.{Side, side, lowest, highest}
use Rattle.checks.specs.steps.Ranks.{Ranks}
use Rattle.weighing.specs.declared.ranked.RankedSet.{RankedSet}
use Rattle.weighing.specs.declared.Worst.{Worst}
use Rattle.weighing.specs.steps.Ranked.{WorseOf, Offered}
use Rattle.weighing.specs.steps.Weighs.{ShowsCarried, Low, ranked_of, Weighed, Weighs}
use Rattle.weighing.proofs.ranked.Weights.{offered_low}
use Rattle.weighing.proofs.weigh.Statement.{statement}
use Rattle.weighing.proofs.weigh.Lts.{then-serves, else-serves}
use Rattle.weighing.proofs.weigh.Tie as tie

-- What the worst so far of one check comes to: the worse of it and of the set where the check is weighed, and else itself.
module _ (serves : Bool) (base : Base) (c : Carried) (b : Worst) where
  record Turn (check : Check) (r : RankedSet) : Type 0 where
    offered : Weighed serves base check → Offered (side check) (ShowsCarried check base c) (ranked_of check b) (carried_set c) r
    left : (Weighed serves base check → ⊥) → r ≡ ranked_of check b
    low : r.set < 65536

  module _ (check : Check) {r : RankedSet} where
    turned : (ranked_of check b).set < 65536 → carried_set c < 65536 → Weighed serves base check
        → Offered (side check) (ShowsCarried check base c) (ranked_of check b) (carried_set c) r → Turn check r
    turned p q on o = record { offered = λ _. o; left = λ n. absurd (n on); low = offered_low p q o }

    stayed : (ranked_of check b).set < 65536 → (Weighed serves base check → ⊥) → r ≡ ranked_of check b → Turn check r
    stayed p n e = record { offered = λ on. absurd (n on); left = λ _. e; low = subst⁻¹ (λ (x : RankedSet). x.set < 65536) e p }

  weighs_all : (r : Worst) → Turn OP r.op → Turn OM r.om → Turn SL r.sl → Turn PR r.pr → Turn RK r.rk → Weighs serves base c b r
  unfolding Low ranked_of
  weighs_all r op om sl pr rk = record { offered = λ check. (turn check).offered; left = λ check. (turn check).left; low = λ check. (turn check).low }
    where
      turn : (check : Check) → Turn check (ranked_of check r)
      turn OP = op
      turn OM = om
      turn SL = sl
      turn PR = pr
      turn RK = rk

offer : {from : Side} {P : Figure → Type 0} {b : RankedSet} {n s t : ℕ} {r : RankedSet} → s ≡ t → Ranks from P n → WorseOf b n s r → Offered from P b t r
offer {b = b} {n = n} {r = r} e ranks worse = record { rank = _; ranks = ranks; worse = subst (λ (x : ℕ). WorseOf b n x r) e worse }

set-in-requires : tie.Need-set_in-set-requires
set-in-requires c κs = search rules

over-zero-requires : tie.Need-over_zero-n-requires
over-zero-requires c κs = search rules

from-zero-requires : tie.Need-from_zero-m-requires
from-zero-requires c κs = search rules

from-zero-requires-2 : tie.Need-from_zero-h-requires
from-zero-requires-2 c κs = search rules

abbrev set_is : (c : tie.After-rk-1) → c.set_in-set.result ≡ carried_set c.args.carried
set_is c = c.set_in-set.ensures

abbrev n_is : (c : tie.After-rk-1) → c.over_zero-n.result ≡ over_zero c.args.carried.n
n_is c = c.over_zero-n.ensures

abbrev m_is : (c : tie.After-rk-1) → c.from_zero-m.result ≡ from_zero c.args.carried.m
m_is c = c.from_zero-m.ensures

n_low : (c : tie.After-rk-1) → c.over_zero-n.result ≤ 2 ^ 20
n_low c = rw (n_is c) c.requires.1.0.n

m_low : (c : tie.After-rk-1) → c.from_zero-m.result ≤ 2 ^ 40
m_low c = rw (m_is c) c.requires.1.0.m

sets_low : (c : tie.After-rk-1) (check : Check) → (0 < carried_set c.args.carried) × (carried_set c.args.carried < 65536) × ((ranked_of check c.args.worst).set < 65536)
unfolding Low carried_set
sets_low c check = let p = c.requires.1.1 in (p.0, omega arith, p.1 check)

sets_given : (c : tie.After-rk-1) (check : Check)
    → (0 < c.set_in-set.result) × (c.set_in-set.result < 65536) × ((ranked_of check c.args.worst).set < 65536)
sets_given c check = subst⁻¹ (λ (s : ℕ). (0 < s) × (s < 65536) × ((ranked_of check c.args.worst).set < 65536)) (set_is c) (sets_low c check)

tip-rank-requires : tie.Need-tip_rank-plus-requires
tip-rank-requires c κs = omega (arith, c.requires.1.0)

tip-rank-requires-2 : tie.Need-tip_rank-minus-requires
tip-rank-requires-2 c κs = omega (arith, c.requires.1.0)

slide-rank-requires : tie.Need-slide_rank-slid-requires
slide-rank-requires c κs =
    (c.requires.0.friction, n_low c.before.before.before.before, rw c.from_zero-h.ensures (omega (arith, c.requires.1.0.h)))

worse-requires : tie.Need-worse-op-requires
unfolding ranked_of
worse-requires c κs = sets_given c.before.before.before.before.before OP

worse-requires-2 : tie.Need-worse-om-requires
unfolding ranked_of
worse-requires-2 c κs = sets_given c.before.before.before.before.before.before OM

worse-requires-3 : tie.Need-worse-sl-requires
unfolding ranked_of
worse-requires-3 c κs = sets_given c.before.before.before.before.before.before.before SL

press-rank-requires : tie.Need-press_rank-pressed-requires
press-rank-requires c κs =
    let b = c.requires.0 in
    ((b.wide, b.width, b.long, b.length), (n_low c.before, m_low c.before))

worse-requires-4 : tie.Need-worse-pr-requires
unfolding ranked_of
worse-requires-4 c κs = sets_given c.before.before.before PR

lean-rank-requires : tie.Need-lean_rank-leaned-requires
lean-rank-requires c κs =
    let b = c.requires.0 in
    ((b.wide, b.width), (n_low c.before.before.before.before.before, m_low c.before.before.before.before.before))

worse-requires-5 : tie.Need-worse-rk-requires
unfolding ranked_of
worse-requires-5 c κs = sets_given c.before.before.before.before.before.before RK

not_on : {on : Bool} → on ≡ false → on ≡ true → ⊥
not_on n y = true≢false (sym y ∙ n)

-- OP, OM and SL where the arms of the first test meet
served : (c : tie.Joined-serves) → let a = c.args in
    Turn a.serves a.base a.carried a.worst OP c.if-serves.op × Turn a.serves a.base a.carried a.worst OM c.if-serves.om
    × Turn a.serves a.base a.carried a.worst SL c.if-serves.sl
unfolding Weighed ShowsCarried side ranked_of carried_set
served c =
    let a = c.args in
    elim c.if-serves.branch [
      | then-serves w ↦
          let sl = subst₂ (λ (n h : ℕ). Offered lowest (Slides a.base.friction n h) a.worst.sl (carried_set a.carried) w.worse-sl.result) (n_is c.before) w.from_zero-h.ensures (offer (set_is c.before) w.slide_rank-slid.ensures w.worse-sl.ensures) in (
            turned _ _ _ _ OP (sets_low c.before OP).2 (sets_low c.before OP).1 w.if-serves.true (subst⁻¹ (Offered _ _ _ _) w.op-is (offer (set_is c.before) w.tip_rank-plus.ensures w.worse-op.ensures)),
            turned _ _ _ _ OM (sets_low c.before OM).2 (sets_low c.before OM).1 w.if-serves.true (subst⁻¹ (Offered _ _ _ _) w.om-is (offer (set_is c.before) w.tip_rank-minus.ensures w.worse-om.ensures)),
            turned _ _ _ _ SL (sets_low c.before SL).2 (sets_low c.before SL).1 w.if-serves.true (subst⁻¹ (Offered _ _ _ _) w.sl-is sl),
          )
      | else-serves w ↦ (
        stayed _ _ _ _ OP (sets_low c.before OP).2 (not_on w.if-serves.false) w.op-is,
        stayed _ _ _ _ OM (sets_low c.before OM).2 (not_on w.if-serves.false) w.om-is,
        stayed _ _ _ _ SL (sets_low c.before SL).2 (not_on w.if-serves.false) w.sl-is,
      )
    ]

pressed : (c : tie.After-worse-pr) → let a = c.args in Turn a.serves a.base a.carried a.worst PR c.worse-pr.result
unfolding Weighed ShowsCarried side ranked_of carried_set
pressed c =
    let a = c.args in
    turned _ _ _ _ PR (sets_low c.before.before.before.before PR).2 (sets_low c.before.before.before.before PR).1 tt
    (subst₂ (λ (n m : ℕ). Offered highest (Presses a.base.width a.base.length n m) a.worst.pr (carried_set a.carried) c.worse-pr.result) (n_is c.before.before.before.before) (m_is c.before.before.before.before)
    (offer (set_is c.before.before.before.before) c.press_rank-pressed.ensures c.worse-pr.ensures))

returns : tie.Need-returns-then-base
unfolding Weighed ShowsCarried side ranked_of carried_set
returns c =
    let a = c.args in
    let s = served c.before.before.before.before.before.before in
    weighs_all _ _ _ _ _ s.0 s.1 s.2 (pressed c.before.before.before)
    (turned _ _ _ _ RK (sets_low c.before.before.before.before.before.before.before RK).2 (sets_low c.before.before.before.before.before.before.before RK).1 c.if-base.true
    (subst₂ (λ (n m : ℕ). Offered highest (Leans a.base.width n m) a.worst.rk (carried_set a.carried) c.worse-rk.result) (n_is c.before.before.before.before.before.before.before) (m_is c.before.before.before.before.before.before.before)
    (offer (set_is c.before.before.before.before.before.before.before) c.lean_rank-leaned.ensures c.worse-rk.ensures)))

returns-2 : tie.Need-returns-else-base
unfolding Weighed ranked_of
returns-2 c =
    let s = served c.before.before.before.before in
    weighs_all _ _ _ _ _ s.0 s.1 s.2 (pressed c.before) (stayed _ _ _ _ RK (sets_low c.before.before.before.before.before RK).2 (not_on c.if-base.false) refl)

pub weigh_spec : {M : Type 1} → statement M
weigh_spec = tie.close (tie.spec set-in-requires over-zero-requires from-zero-requires from-zero-requires-2 tip-rank-requires tip-rank-requires-2 slide-rank-requires worse-requires worse-requires-2 worse-requires-3 press-rank-requires worse-requires-4 lean-rank-requires worse-requires-5 returns returns-2)
