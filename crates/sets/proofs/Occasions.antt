-- A combination that permits a set is raised by some row, so one that no row raises has no set.
use mathlib.Core.Path.{◌≡◌, refl, subst}
use Prim.Native.Nat.{ℕ, ◌^◌, ◌<◌}
use native.Mathlib.Omega.{arith}
use native.Mathlib.Decide.{dec_lt}
use Rattle.arithmetic.proofs.Cases.{by_cases}
use Rattle.sets.specs.declared.Combination.{Combination}
use Rattle.sets.specs.declared.Combination.TheVariants.{I, II, III, IV}
use Rattle.sets.specs.declared.Loads.{Loads}
use Rattle.sets.specs.Sets.{Has, Erected, Mixed, Permitted}
use Rattle.sets.specs.steps.Deciding.{RaisedBy, Arises}

module _ (loads : Loads) where
  -- a set has a row, so the job has one
  some_row : (set : ℕ) → 0 < set → set < 2 ^ loads.count → 0 < loads.count
  some_row set s w =
      by_cases (dec_lt 0 loads.count) (λ h. h)
      (λ h.
      let e : loads.count ≡ 0 = omega arith in
      let one : set < 1 = subst (λ (n : ℕ). set < 2 ^ n) e w in
      absurd (omega arith))

  pub permitted_arises : (combination : Combination) (set : ℕ) → Permitted combination loads set → Arises combination loads
  unfolding Arises RaisedBy Mixed Has Erected
  permitted_arises I set p = (0, some_row set p.some p.within, tt)
  permitted_arises II set p = let w = p.mixed.0 in (w.0, w.1, w.3)
  permitted_arises III set p = let w = p.mixed.1 in (w.0, w.1, w.3)
  permitted_arises IV set p = p.erection refl

  pub arises_erected : (combination : Combination) → Arises combination loads → combination ≡ IV → Erected loads
  unfolding Arises RaisedBy Erected
  arises_erected combination o e = subst (λ (k : Combination). Arises k loads) e o
