-- A row that leads takes the next bit of the way, and counts where that is 1.
use Rattle.std.proofs.Common.{ℕ, ◌+◌, refl, ◌∙◌, ap, pow_mono, arith}
use Rattle.arithmetic.proofs.Deciding.{decided, refuted}
use Rattle.sums.proofs.Adding.{shifted}
use Rattle.worst.specs.steps.Stance.{leading, choosable, pick}
use Rattle.worst.proofs.choices.Choices.{pick_low}
use Rattle.worst.proofs.trains.Present.{told_in, told_out, told_same, told_as}
use Rattle.worst.proofs.trains.present_in.Goals.{then-holds, else-holds, then-rest-eq1, else-rest-eq1}
use Rattle.worst.proofs.trains.present_in.Goals as goal

pub loop-i-init : goal.loop-i-init
unfolding pick choosable
loop-i-init c = record { there = refl; left = omega arith }

pub overflow_add-present : goal.overflow_add-present
overflow_add-present c =
    let i = c.loop-i.i in
    omega (arith, shifted i (omega arith), pow_mono {i = i} {j = 15} (omega arith), c.loop-i.invariant.there, pick_low (leading c.args.leaders) i c.args.way)

pub loop-i-preserved : goal.loop-i-preserved
loop-i-preserved c =
    let h = c.holds in
    let inv = c.loop-i.invariant in
    elim c.if-holds.branch [
      | then-holds w ↦
          let l = decided h.result w.if-holds.true h.ensures in
          elim w.if-rest-eq1.branch [
            | then-rest-eq1 v ↦ told_as (told_in _ _ _ inv l v.if-rest-eq1.true) (w.present-is ∙ v.present-is ∙ ap (λ (x : ℕ). c.loop-i.present + x) (shifted c.loop-i.i (omega arith))) w.rest-is
            | else-rest-eq1 v ↦ told_as (told_out _ _ _ inv l (omega (arith, v.if-rest-eq1.false))) (w.present-is ∙ v.present-is) w.rest-is
          ]
      | else-holds w ↦ told_as (told_same _ _ _ inv (refuted h.result w.if-holds.false h.ensures)) w.present-is w.rest-is
    ]

pub returns : goal.returns
returns c = c.loop-i.invariant.there ∙ ap (λ (i : ℕ). pick (leading c.args.leaders) i c.args.way) (omega arith)
