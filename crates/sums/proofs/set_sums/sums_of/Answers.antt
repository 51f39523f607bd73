-- Each row that is in the set adds its terms; what 16 rows give is small.
use Rattle.std.proofs.Common.{◌^◌, ◌<◌, ◌≤◌, sym, ap, ◌∙◌, arith}
use Rattle.sets.specs.Sets.{row}
use Rattle.sets.proofs.Bits.{bit_not_one}
use Rattle.arithmetic.proofs.Deciding.{decided, refuted}
use Rattle.sums.specs.steps.Sums.{add, terms_from, sums_to, sums_from}
use Rattle.sums.proofs.Adding.{add_if_in, add_if_out, sums_none, sums_more, room_sums, room_row, room_more, low_place, shifted}
use Rattle.sums.proofs.set_sums.sums_of.Goals.{then-holds, else-holds}
use Rattle.sums.proofs.set_sums.sums_of.Goals as goal

pub loop-i-init : goal.loop-i-init
loop-i-init c = c.no_sums-sums.ensures ∙ sums_none _ _ _

pub add-sums-requires : goal.add-sums-requires
add-sums-requires c =
    let b = c.requires.bounded in
    let i = c.loop-i.i in
    let k : i < c.args.loads.count = omega arith in
    let p : 2 ^ i ≤ 2 ^ 34 = low_place i (omega (arith, b.count)) in (
      rw c.loop-i.invariant (room_more (omega (arith, b.count)) (room_sums _ _ _ i c.requires.width_bound b (omega arith))),
      rw (c.terms_of.ensures, c.rows-load-items.ensures.each i k, shifted i (omega (arith, b.count))) (room_more (omega arith) (room_row _ _ c.requires.width_bound (b.each i k) _ p)),
    )

pub loop-i-preserved : goal.loop-i-preserved
loop-i-preserved c =
    let b = c.requires.bounded in
    let i = c.loop-i.i in
    let k : i < c.args.loads.count = omega arith in
    elim c.if-holds.branch [
      | then-holds w ↦ w.sums-is ∙ w.add-sums.ensures
          ∙ (λ t. add (c.loop-i.invariant t) ((w.terms_of.ensures ∙ (λ u. terms_from c.args.width (c.rows-load-items.ensures.each i k u) (shifted i (omega (arith, b.count)) u))) t))
          ∙ sym (add_if_in _ _ (decided c.holds.result w.if-holds.true c.holds.ensures))
      | else-holds w ↦ w.sums-is ∙ c.loop-i.invariant ∙ sym (add_if_out _ (terms_from c.args.width (row c.args.loads i) (2 ^ i)) (bit_not_one _ _ (refuted c.holds.result w.if-holds.false c.holds.ensures)))
    ]
    ∙ sym (sums_more _ _ _ _)

pub returns : goal.returns
unfolding sums_from
returns c = c.loop-i.invariant ∙ ap (sums_to _ _ _) (omega arith)
