-- Each leading row that is passed doubles the ways.
use Rattle.std.proofs.Common.{◌≡◌, ℕ, ◌+◌, ◌*◌, ◌^◌, ◌∙◌, ap, add-one, pow_mono, arith}
use native.Mathlib.Nat.{pow-suc}
use Rattle.arithmetic.proofs.Deciding.{decided, refuted}
use Rattle.sets.specs.Sets.{bit}
use Rattle.worst.specs.steps.Stance.{leading, choosable, next}
use Rattle.worst.proofs.choices.Choices.{choosable_room}
use Rattle.worst.proofs.choices.Beside.{leads, leads_not}
use Rattle.worst.proofs.trains.ways_of.Goals.{then-holds, else-holds}
use Rattle.worst.proofs.trains.ways_of.Goals as goal

doubled : (leaders i : ℕ) → bit leaders i ≡ 1 → 2 * 2 ^ choosable (leading leaders) i ≡ 2 ^ choosable (leading leaders) (i + 1)
unfolding choosable next
doubled leaders i h = rw (add-one i, leads leaders i h, pow-suc 2 (choosable (leading leaders) i)) (omega arith)

kept : (leaders i : ℕ) → (bit leaders i ≡ 1 → ⊥) → 2 ^ choosable (leading leaders) i ≡ 2 ^ choosable (leading leaders) (i + 1)
unfolding choosable next
kept leaders i h = rw (add-one i, leads_not leaders i h)

pub loop-i-init : goal.loop-i-init
unfolding choosable
loop-i-init c = omega arith

pub overflow_mul-ways : goal.overflow_mul-ways
overflow_mul-ways c =
    let leaders = c.args.leaders in
    let i = c.loop-i.i in
    omega (arith, c.loop-i.invariant, pow_mono {i = choosable (leading leaders) i} {j = 16} (omega (arith, choosable_room (leading leaders) i)))

pub loop-i-preserved : goal.loop-i-preserved
loop-i-preserved c =
    let h = c.holds in
    elim c.if-holds.branch [
      | then-holds w ↦ w.ways-is ∙ ap (λ (x : ℕ). 2 * x) c.loop-i.invariant ∙ doubled _ _ (decided h.result w.if-holds.true h.ensures)
      | else-holds w ↦ w.ways-is ∙ c.loop-i.invariant ∙ kept _ _ (refuted h.result w.if-holds.false h.ensures)
    ]
