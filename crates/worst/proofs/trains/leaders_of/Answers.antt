-- A row that names none, or one that does not act, brings no leader.
use Rattle.std.proofs.Common.{◌≡◌, ℕ, suc, ◌+◌, ◌-◌, ◌<◌, ◌∙◌, ap, subst, arith}
use mathlib.Core.Path.{subst⁻¹}
use Rattle.arithmetic.proofs.Deciding.{decided, refuted}
use Rattle.sets.specs.declared.Load.{Load}
use Rattle.sets.specs.Sets.{row, Acts}
use Rattle.worst.specs.steps.Trains.{LeadersIs}
use Rattle.worst.proofs.trains.Leaders.{with_low, leaders_none, leaders_same, leaders_more}
use Rattle.worst.proofs.trains.leaders_of.Goals.{then-load-gt0+then-acts, then-load-gt0+else-acts, else-load-gt0}
use Rattle.worst.proofs.trains.leaders_of.Goals as goal

pub loop-load-init : goal.loop-load-init
loop-load-init c = (omega arith, leaders_none _ _)

pub loop-load-preserved : goal.loop-load-preserved
unfolding row
loop-load-preserved c =
    let a = c.args in
    let i = c.loop-load.load-index in
    let leaders = c.loop-load.leaders in
    let inv = c.loop-load.invariant in
    let k : i < a.loads.count = omega arith in
    let told = ap (λ (load : Load). load.train) (c.rows-load-items.ensures.each i k) in
    let low = (c.requires.each i k).train in
    let As : ℕ → Type 0 = λ x. (x < 65536) × LeadersIs a.combination a.loads (i + 1) x in
    elim c.if-load-gt0.branch [
      | then-load-gt0+then-acts w ↦ subst⁻¹ As (w.leaders-is ∙ w.with_row-leaders.ensures) (
        with_low leaders _ (omega (arith, low, told, w.if-load-gt0.true)) inv.0,
        leaders_more a.combination a.loads i leaders inv.1 _ (omega (arith, told, w.if-load-gt0.true)) (decided w.acts.result w.if-acts.true w.acts.ensures),
      )
      | then-load-gt0+else-acts w ↦ subst⁻¹ As w.leaders-is (
        inv.0,
        leaders_same a.combination a.loads i leaders inv.1
            (λ m e acting. refuted w.acts.result w.if-acts.false w.acts.ensures (subst (λ (n : ℕ). Acts a.combination (row a.loads n).phase) (before_it m (told ∙ e)) acting)),
      )
      | else-load-gt0 w ↦ subst⁻¹ As w.leaders-is (inv.0, leaders_same a.combination a.loads i leaders inv.1 (λ m e acting. omega (arith, told, e, w.if-load-gt0.false)))
    ]
  where
    before_it : (m : ℕ) {n : ℕ} → n ≡ suc m → m ≡ n - 1
    before_it m e = omega arith

pub returns : goal.returns
returns c = subst (λ (n : ℕ). LeadersIs c.args.combination c.args.loads n c.loop-load.leaders) (omega arith) c.loop-load.invariant.1
