-- How large what a row exerts is.
use mathlib.Core.Path.{◌≡◌, refl, sym, subst, subst⁻¹}
use Prim.Native.Nat.{ℕ, ◌≤◌}
use native.Mathlib.Nat.{le_trans, mul-le-mul}
use lib.Dec.{lit≤}
use lib.IntN.{◌*ℤ◌}
use Rattle.arithmetic.specs.declared.signed.Amount.{Amount}
use Rattle.arithmetic.specs.signed.Whole.{amount}
use Rattle.kinds.specs.declared.Column.TheVariants.{Empty}
use Rattle.kinds.specs.declared.Numbers.{Numbers}
use Rattle.kinds.specs.declared.Row.{Row}
use Rattle.kinds.specs.declared.classes.Source.{Source}
use Rattle.kinds.specs.declared.classes.Source.TheVariants.{Absent, Earth, Current, Surcharge, Own}
use Rattle.kinds.specs.Table.{load_columns}
use Rattle.kinds.specs.ranges.Range.{InColumns, Ranged, value}
use Rattle.kinds.specs.classes.Classes.{source}
use Rattle.kinds.proofs.Trains.{train_low}
use Rattle.earth.specs.coefficients.Coefficients.{Coefficient}
use Rattle.earth.specs.steps.LowCoefficient.{LowCoefficient}
use Rattle.earth.specs.EarthRow.{in_range}
use Rattle.earth.proofs.Bounds.{pressed_modest}
use Rattle.current.proofs.Bounds.{push_mild}
use Rattle.surcharge.proofs.Bounds.{pushes_moderate, both_forces, both_twists}
use Rattle.sets.specs.declared.Load.{Load}
use Rattle.sets.specs.Bounded.{BoundedLoad}
use Rattle.loads.specs.forces.Exerts.{OwnForces, PushLoad, Forces, Exerts}
use Rattle.loads.proofs.forces.Amounts.{amount_size, value_size, product_size}
use Rattle.loads.proofs.forces.Exerting.{around_size, own_columns, ranged_as, earth_kind, current_kind, surcharge_kind}

push_bounded : {H twist : ℕ} {load : Load} → load.train ≤ 16 → H ≤ 300000 → twist ≤ 3000000000 → PushLoad H twist load → BoundedLoad load
unfolding amount
push_bounded t p q f =
    record {
      v = subst (λ (a : Amount). a.size ≤ 50000) (sym f.v) (lit≤ tt);
      x = subst (λ (a : Amount). a.size ≤ 32000) (sym f.x) (lit≤ tt);
      h = subst (λ (a : Amount). a.size ≤ 300000) (sym f.h) p;
      twist = subst (λ (a : Amount). a.size ≤ 3000000000) (sym f.turns) q;
      train = t;
    }

own_bounded : {n : Numbers} {load : Load} → load.train ≤ 16 → InColumns (load_columns Empty) n → OwnForces n load → BoundedLoad load
own_bounded {n} t r f =
    let h = around_size 50000 n.n3 r.n3 in
    record {
      v = subst (λ (a : Amount). a.size ≤ 50000) (sym f.v) (rw (amount_size (value n.n1), value_size n.n1) (around_size 50000 n.n1 r.n1));
      x = subst (λ (a : Amount). a.size ≤ 32000) (sym f.x) (rw (amount_size (value n.n2), value_size n.n2) (le_trans (around_size 30000 n.n2 r.n2) (lit≤ tt)));
      h = subst (λ (a : Amount). a.size ≤ 300000) (sym f.h) (rw (amount_size (value n.n3), value_size n.n3) (le_trans h (lit≤ tt)));
      twist = subst (λ (a : Amount). a.size ≤ 3000000000) (sym f.twist)
          (rw (amount_size (value n.n3 *ℤ value n.n4), product_size (value n.n3) (value n.n4), value_size n.n3, value_size n.n4) (mul-le-mul h r.n4.to));
      train = t;
    }

-- What a row in range exerts is bounded, whatever coefficients up to 40,000 are held.
pub exerts_bounded : (fill : ℕ → ℕ → Coefficient) → ((soil slope : ℕ) → LowCoefficient (fill soil slope)) → (row : Row) (load : Load) → Ranged row.kind row.numbers → Exerts fill row load → BoundedLoad load
unfolding Forces
exerts_bounded fill small row load r e = go (source row.kind) refl e.forces
  where
    low : load.train ≤ 16
    low = subst⁻¹ (λ (t : ℕ). t ≤ 16) e.train (train_low row.kind row.numbers r)

    go : (s : Source) → source row.kind ≡ s → Forces fill s row.numbers load → BoundedLoad load
    go Absent d f = push_bounded low (lit≤ tt) (lit≤ tt) f
    go Earth d f = let m = pressed_modest small (in_range (ranged_as row.numbers (earth_kind fill row d) r) f.pressed) in push_bounded low m.thrust m.moment f.exerts
    go Current d f = let m = push_mild (ranged_as row.numbers (current_kind fill row d) r) f.rule in push_bounded low (le_trans m.force (lit≤ tt)) m.moment f.exerts
    go Surcharge d f = let m = pushes_moderate (ranged_as row.numbers (surcharge_kind fill row d) r) f.rule in push_bounded low (both_forces m) (both_twists m) f.exerts
    go Own d f = own_bounded low (own_columns row.kind row.numbers d r) f
