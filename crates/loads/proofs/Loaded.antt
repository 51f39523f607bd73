-- A row exerts one load, and the rows of a job one table of loads.
use mathlib.Core.Path.{◌≡◌, refl, sym, ◌∙◌, ap₂, subst, subst₂}
use mathlib.Core.List.{List, [], ◌∷◌}
use Prim.Native.Nat.{ℕ, ◌*◌, ◌≤◌, zero-le, suc-le-suc}
use native.Mathlib.Omega.{arith}
use lib.ListN.{length}
use Rattle.kinds.specs.declared.Row.{Row}
use Rattle.earth.specs.coefficients.Coefficients.{Coefficient}
use Rattle.earth.specs.Earth as earth
use Rattle.earth.proofs.Pressures.{pushed_one}
use Rattle.current.specs.Current as current
use Rattle.current.proofs.Currents.{rule_one}
use Rattle.surcharge.specs.Surcharge as surcharge
use Rattle.surcharge.specs.declared.Parts.{Parts}
use Rattle.surcharge.proofs.Surcharges as surcharges
use Rattle.sets.specs.declared.Load.{Load}
use Rattle.sets.specs.declared.Loads.{Loads}
use Rattle.kinds.specs.declared.classes.Source.{Source}
use Rattle.kinds.specs.declared.classes.Source.TheVariants.{Absent, Earth, Current, Surcharge, Own}
use Rattle.kinds.specs.classes.Classes.{source}
use Rattle.loads.specs.forces.Exerts.{PushLoad, PartsLoad, Forces, Exerts}
use Rattle.loads.proofs.forces.Exerting.{same_load}
use Rattle.loads.specs.LoadRows.{Laid, AreLoads}

-- ---- a row exerts one load
same_push : {H y G z : ℕ} → earth.push H y ≡ earth.push G z → (H ≡ G) × (y ≡ z)
same_push e = (cc, cc)

same_current : {H y G z : ℕ} → current.push H y ≡ current.push G z → (H ≡ G) × (y ≡ z)
same_current e = (cc, cc)

same_parts : {a b : Parts} → surcharge.pushes a ≡ surcharge.pushes b → a ≡ b
same_parts e = cc

pub exerts_one : (fill : ℕ → ℕ → Coefficient) (r : Row) (a b : Load) → Exerts fill r a → Exerts fill r b → a ≡ b
unfolding Forces
exerts_one fill r a b p q = go (source r.kind) p.forces q.forces
  where
    class : a.class ≡ b.class
    class = p.class ∙ sym q.class

    phase : a.phase ≡ b.phase
    phase = p.phase ∙ sym q.phase

    train : a.train ≡ b.train
    train = p.train ∙ sym q.train

    same : {H twist : ℕ} → PushLoad H twist a → PushLoad H twist b → a ≡ b
    same f g = same_load class phase train (f.v ∙ sym g.v) (f.x ∙ sym g.x) (f.h ∙ sym g.h) (f.turns ∙ sym g.turns)

    pushed : {H y G z : ℕ} → (H ≡ G) × (y ≡ z) → PushLoad H (H * y) a → PushLoad G (G * z) b → a ≡ b
    pushed e f g = same (subst₂ (λ (H y : ℕ). PushLoad H (H * y) a) e.0 e.1 f) g

    go : (s : Source) → Forces fill s r.numbers a → Forces fill s r.numbers b → a ≡ b
    go Absent f g = same f g
    go Earth f g = pushed (same_push (pushed_one f.pressed g.pressed)) f.exerts g.exerts
    go Current f g = pushed (same_current (rule_one f.rule g.rule)) f.exerts g.exerts
    go Surcharge f g = same (subst (λ (parts : Parts). PartsLoad parts a) (same_parts (surcharges.rule_one f.rule g.rule)) f.exerts) g.exerts
    go Own f g = same_load class phase train (f.v ∙ sym g.v) (f.x ∙ sym g.x) (f.h ∙ sym g.h) (f.twist ∙ sym g.twist)

-- ---- and the rows of a job one table of loads
module _ (fill : ℕ → ℕ → Coefficient) where
  laid_one : (rows : List Row) (a b : List Load) → length a ≡ length b → Laid fill rows a → Laid fill rows b → a ≡ b
  unfolding Laid
  laid_one [] [] [] e p q = refl
  laid_one [] [] (y ∷ b) e p q = absurd (omega arith)
  laid_one [] (x ∷ a) [] e p q = absurd (omega arith)
  laid_one [] (x ∷ a) (y ∷ b) e p q = ap₂ ◌∷◌ (p.0 ∙ sym q.0) (laid_one [] a b (omega arith) p.1 q.1)
  laid_one (r ∷ rows) [] b e p q = absurd p
  laid_one (r ∷ rows) (x ∷ a) [] e p q = absurd q
  laid_one (r ∷ rows) (x ∷ a) (y ∷ b) e p q = ap₂ ◌∷◌ (exerts_one fill r x y p.0 q.0) (laid_one rows a b (omega arith) p.1 q.1)

  pub loads_one : (rows : List Row) (a b : Loads) → AreLoads fill rows a → AreLoads fill rows b → a ≡ b
  loads_one rows a b p q =
      ap₂ (λ (m : ℕ) (l : List Load). record { count = m; loads = l }) (p.count ∙ sym q.count) (laid_one rows a.loads b.loads (p.places ∙ sym q.places) p.laid q.laid)

  -- there are at most as many of them as places
  laid_few : (rows : List Row) (loads : List Load) → Laid fill rows loads → length rows ≤ length loads
  unfolding Laid
  laid_few [] loads p = zero-le
  laid_few (r ∷ rows) [] p = absurd p
  laid_few (r ∷ rows) (l ∷ loads) p = suc-le-suc (laid_few rows loads p.1)

  pub loads_few : (rows : List Row) (loads : Loads) → AreLoads fill rows loads → loads.count ≤ 16
  loads_few rows loads a = omega (arith, a.count, a.places, laid_few rows loads.loads a.laid)
