-- What a row of its own forces exerts, the loads of one DL row alone, and OP of the set of it: by a test that is computed of what resists and what overturns.
use mathlib.Core.Path.{refl, subst⁻¹}
use mathlib.Core.List.{[], ◌∷◌}
use Prim.Native.Nat.{ℕ, zero, suc, ◌*◌}
use lib.Dec.{T, ltb, ltb→lt}
use lib.IntN.{pos, ◌*ℤ◌}
use lib.ListN.{replicate}
use Rattle.arithmetic.proofs.rounding.Compute.{is_down, down_test}
use Rattle.earth.specs.table2.Table2.{table2_fill}
use Rattle.arithmetic.specs.signed.Whole.{signed, amount}
use Rattle.sets.specs.declared.Class.{Class}
use Rattle.sets.specs.declared.Class.TheVariants.{Permanent}
use Rattle.sets.specs.declared.Load.{Load}
use Rattle.sets.specs.declared.Loads.{Loads}
use Rattle.sets.specs.Sets.{blank_load}
use Rattle.sums.specs.Totals.{plus, resisting, overturning}
use Rattle.checks.specs.declared.Figure.TheVariants.{Number}
use Rattle.checks.specs.steps.Rounded.{Tips}
use Rattle.checks.specs.set_figures.Figures.{Shows}
use Rattle.kinds.specs.classes.Classes.{class_of, source}
use Rattle.loads.specs.forces.Exerts.{Forces, Exerts}
use Rattle.loads.specs.LoadRows.{Laid, AreLoads}
use Rattle.figures.specs.Figures.{dead_load, Overturns}

pub no_more : (n : ℕ) → Laid table2_fill [] (replicate n blank_load)
unfolding Laid
no_more zero = tt
no_more (suc n) = (refl, no_more n)

abbrev pub exerted : Class → (train v x h y : ℕ) → Load
exerted class train v x h y =
    record {
      class = class;
      phase = 0;
      train = train;
      v = amount (pos v);
      x = amount (pos x);
      h = amount (pos h);
      twist = amount (pos h *ℤ pos y);
    }

module _ (v x h y : ℕ) where
  abbrev pub alone : Loads
  alone = record { count = 1; loads = exerted Permanent 0 v x h y ∷ replicate 15 blank_load }

  pub exerts : Exerts table2_fill (dead_load v x h y) (exerted Permanent 0 v x h y)
  unfolding class_of source Forces signed
  exerts = record { class = refl; phase = refl; train = refl; forces = record { v = refl; x = refl; h = refl; twist = refl } }

  are_loads : AreLoads table2_fill (dead_load v x h y ∷ []) alone
  unfolding Laid
  are_loads = record { count = refl; places = refl; laid = (exerts, no_more 15) }

  pub overturns_test : (B figure : ℕ) → T (ltb 0 (overturning plus B alone 1)) → T (is_down (100 * resisting plus B alone 1) (overturning plus B alone 1) figure)
      → Overturns B (dead_load v x h y) figure
  unfolding Shows Tips
  overturns_test B figure s t =
      record {
        loads = alone;
        its_loads = are_loads;
        shows = λ base e. subst⁻¹ (λ (b : ℕ). Tips (resisting plus b alone 1) (overturning plus b alone 1) (Number figure)) e (ltb→lt 0 _ s, down_test _ _ figure t);
      }
