-- A permitted set has rows that fit, none past the last and a row that raises its combination, so failing any refutes it; what remains is decided by its wind and
-- earthquake rows, which its sums count at any width, here 0.
use Rattle.std.proofs.Common.{◌<◌, le_refl, refl, subst, arith, below_more}
use Rattle.arithmetic.specs.decides.Decides.{Decides}
use Rattle.arithmetic.proofs.Deciding.{decided, refuted}
use Rattle.sums.specs.declared.Sums.{Sums}
use Rattle.sets.specs.steps.Deciding.{Admits}
use Rattle.sets.specs.Sets.{bit}
use Rattle.sets.proofs.Bits.{no_rest, no_bits_left}
use Rattle.sets.proofs.Occasions.{permitted_arises}
use Rattle.sets.proofs.Permitting.{Fit, permitted_fits}
use Rattle.sums.proofs.permitted.Admitted.{decides_permitted}
use Rattle.sums.proofs.permitted.permitted.Goals.{then-set-loads-ne0-via-then-set-loads-ne0, then-set-loads-ne0-via-else-set-loads-ne0+then-not-arises}
use Rattle.sums.proofs.permitted.permitted.Goals as goal

pub returns-then-not-row_fits : goal.returns-then-not-row_fits
unfolding bit Fit
returns-then-not-row_fits c =
    let k : c.loop-i.i < c.args.loads.count = omega arith in
    λ p. refuted c.row_fits.result c.if-not-row_fits.true (rw (c.rows-load-items.ensures.each _ k) at c.row_fits.ensures) ((permitted_fits _ _ _ p).1 _ k)

pub loop-i-preserved : goal.loop-i-preserved
unfolding bit
loop-i-preserved c =
    let k : c.loop-i.i < c.args.loads.count = omega arith in
    below_more _ _ c.loop-i.invariant (decided c.row_fits.result c.if-not-row_fits.false (rw (c.rows-load-items.ensures.each _ k) at c.row_fits.ensures))

pub returns-then-set-loads-ne0 : goal.returns-then-set-loads-ne0
returns-then-set-loads-ne0 c =
    elim c.then-set-loads-ne0.branch [
      | then-set-loads-ne0-via-then-set-loads-ne0 w ↦ λ p. w.if-set-loads-ne0.true (no_bits_left _ _ _ _ (le_refl c.args.loads.count) (le_refl c.args.loads.count) refl p.within)
      | then-set-loads-ne0-via-else-set-loads-ne0+then-not-arises w ↦ λ p. refuted w.arises.result w.if-not-arises.true w.arises.ensures (permitted_arises _ _ _ p)
    ]

pub returns : goal.returns
unfolding Fit
returns c =
    let a = c.args in
    decides_permitted 0 a.loads a.set a.combination c.admits.result
    (no_rest _ _ _ _ (le_refl a.loads.count) (le_refl a.loads.count) refl c.if-set-loads-ne0.false, λ j h. c.loop-i.invariant j (omega arith))
    (decided c.arises.result c.if-not-arises.false c.arises.ensures)
    (subst (λ (s : Sums). Decides c.admits.result (Admits a.combination s.winds s.earthquakes a.set)) c.sums_of-sums.ensures c.admits.ensures)
