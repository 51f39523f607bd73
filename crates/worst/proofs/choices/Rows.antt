-- A row's stance is what every permitted set does with it, and a row that is choosable may stand either way.
use mathlib.Core.Path.{◌≡◌, refl, sym, ◌∙◌, ap, subst}
use mathlib.Core.Logic.{◌⊎◌, inl, inr, ⊎_elim}
use mathlib.Core.Bool.{Bool, true, false, cond, true≢false}
use Prim.Native.Nat.{ℕ, ◌<◌}
use native.Mathlib.Omega.{arith}
use lib.Dec.{eqb}
use borrow.Author.Tests.{eq-eqb, ne_eqb, eqb-true}
use Rattle.arithmetic.proofs.Cases.{impossible}
use Rattle.sets.specs.declared.Class.{Class}
use Rattle.sets.specs.declared.Class.TheVariants.{Permanent, Free, Wind, Earthquake}
use Rattle.sets.specs.declared.Combination.{Combination}
use Rattle.sets.specs.declared.Combination.TheVariants.{I, II, III, IV}
use Rattle.sets.specs.declared.Load.{Load}
use Rattle.sets.specs.declared.Loads.{Loads}
use Rattle.sets.specs.Sets.{bit, row, own_phase, Acts, Has, Mixed, Permitted}
use Rattle.sets.proofs.Bits.{bit_not_one}
use Rattle.worst.specs.declared.choices.Stance.{Stance}
use Rattle.worst.specs.declared.choices.Stance.TheVariants.{Never, Always, Choosable}
use Rattle.worst.specs.steps.Stance.{by_class, acting, stance_toward, held_by}

-- ---- the test of the phase
acts_true : (k : Combination) (p : ℕ) → Acts k p → acting k p ≡ true
unfolding Acts acting
acts_true k p a = ⊎_elim (λ e. rw (eq-eqb p (own_phase k) e)) (λ e. go (eqb p (own_phase k)) (eq-eqb p 2 e)) a
  where
    go : (x : Bool) → eqb p 2 ≡ true → cond x true (eqb p 2) ≡ true
    go true e = refl
    go false e = e

acts_false : (k : Combination) (p : ℕ) → (Acts k p → ⊥) → acting k p ≡ false
unfolding Acts acting
acts_false k p n = rw (ne_eqb p (own_phase k) (λ e. n (inl e)), ne_eqb p 2 (λ e. n (inr e)))

pub stands_never : (k : Combination) (load : Load) → (Acts k load.phase → ⊥) → stance_toward k load ≡ Never
unfolding stance_toward
stands_never k load n = rw (acts_false k load.phase n)

pub stands_acting : (k : Combination) (load : Load) → Acts k load.phase → stance_toward k load ≡ by_class k load.class
unfolding stance_toward
stands_acting k load a = rw (acts_true k load.phase a)

acting_acts : (k : Combination) (p : ℕ) → acting k p ≡ true → Acts k p
unfolding Acts acting
acting_acts k p e = go (eqb p (own_phase k)) refl e
  where
    go : (x : Bool) → eqb p (own_phase k) ≡ x → cond x true (eqb p 2) ≡ true → (p ≡ own_phase k) ⊎ (p ≡ 2)
    go true d h = inl (eqb-true p (own_phase k) d)
    go false d h = inr (eqb-true p 2 h)

-- ---- what a stance says of the row
unfoldable pub StanceSays : Combination → Load → Stance → Type 0
StanceSays k load Never = (Acts k load.phase → ⊥) ⊎ (by_class k load.class ≡ Never)
StanceSays k load Always = Acts k load.phase × (load.class ≡ Permanent)
StanceSays k load Choosable = Acts k load.phase × (load.class ≡ Permanent → ⊥)

says_class : (k : Combination) (load : Load) (c : Class) → load.class ≡ c → Acts k load.phase → StanceSays k load (by_class k c)
unfolding StanceSays by_class
says_class k load Permanent e a = (a, e)
says_class k load Free e a = (a, λ p. impossible cc)
says_class I load Wind e a = inr (ap (by_class I) e)
says_class II load Wind e a = (a, λ p. impossible cc)
says_class III load Wind e a = inr (ap (by_class III) e)
says_class IV load Wind e a = (a, λ p. impossible cc)
says_class I load Earthquake e a = inr (ap (by_class I) e)
says_class II load Earthquake e a = inr (ap (by_class II) e)
says_class III load Earthquake e a = (a, λ p. impossible cc)
says_class IV load Earthquake e a = (a, λ p. impossible cc)

pub stance_says : (k : Combination) (load : Load) → StanceSays k load (stance_toward k load)
unfolding StanceSays
stance_says k load = go (acting k load.phase) refl
  where
    go : (x : Bool) → acting k load.phase ≡ x → StanceSays k load (stance_toward k load)
    go true e = let a = acting_acts k load.phase e in subst (StanceSays k load) (sym (stands_acting k load a)) (says_class k load load.class refl a)
    go false e =
        let n : Acts k load.phase → ⊥ = λ a. true≢false (sym (acts_true k load.phase a) ∙ e) in
        subst (StanceSays k load) (sym (stands_never k load n)) (inl n)

-- ---- a permitted set holds each row as its stance says
barred : (k : Combination) (loads : Loads) (t i : ℕ) → Mixed k loads t → i < loads.count → bit t i ≡ 1 → (c : Class) → (row loads i).class ≡ c → by_class k c ≡ Never → ⊥
unfolding Mixed Has by_class
barred k loads t i m h b Permanent e n = impossible cc
barred k loads t i m h b Free e n = impossible cc
barred I loads t i m h b Wind e n = m.0 (i, h, b, e)
barred II loads t i m h b Wind e n = impossible cc
barred III loads t i m h b Wind e n = m.0 (i, h, b, e)
barred IV loads t i m h b Wind e n = impossible cc
barred I loads t i m h b Earthquake e n = m.1 (i, h, b, e)
barred II loads t i m h b Earthquake e n = m.1 (i, h, b, e)
barred III loads t i m h b Earthquake e n = impossible cc
barred IV loads t i m h b Earthquake e n = impossible cc

module _ (k : Combination) (loads : Loads) (t i : ℕ) (p : Permitted k loads t) (h : i < loads.count) where
  pub held_never : stance_toward k (row loads i) ≡ Never → bit t i ≡ 0
  unfolding StanceSays
  held_never e =
      let s = subst (StanceSays k (row loads i)) e (stance_says k (row loads i)) in
      bit_not_one t i (λ b. ⊎_elim (λ n. n (p.acting i h b)) (λ n. barred k loads t i p.mixed h b (row loads i).class refl n) s)

  pub held_always : stance_toward k (row loads i) ≡ Always → bit t i ≡ 1
  unfolding StanceSays
  held_always e = let s = subst (StanceSays k (row loads i)) e (stance_says k (row loads i)) in p.permanent i h s.1 s.0

-- ---- a row held as its stance says may stand so
-- what a stance must say for that
unfoldable pub MayStand : Combination → Load → Stance → Type 0
MayStand k load Never = load.class ≡ Permanent → Acts k load.phase → ⊥
MayStand k load Always = Acts k load.phase
MayStand k load Choosable = Acts k load.phase × (load.class ≡ Permanent → ⊥)

pub says_may : (k : Combination) (load : Load) (a : Stance) → StanceSays k load a → MayStand k load a
unfolding StanceSays MayStand by_class
says_may k load Never s = λ c a. ⊎_elim (λ n. n a) (λ n. let q : ◌≡◌ {A = Stance} Always Never = sym (ap (by_class k) c) ∙ n in impossible cc) s
says_may k load Always s = s.0
says_may k load Choosable s = s

pub may_acting : (k : Combination) (load : Load) (a : Stance) (b : ℕ) → MayStand k load a → held_by a b ≡ 1 → Acts k load.phase
unfolding MayStand held_by
may_acting k load Never b m e = absurd (omega arith)
may_acting k load Always b m e = m
may_acting k load Choosable b m e = m.0

pub may_permanent : (k : Combination) (load : Load) (a : Stance) (b : ℕ) → MayStand k load a → load.class ≡ Permanent → Acts k load.phase → held_by a b ≡ 1
unfolding MayStand held_by
may_permanent k load Never b m p a = absurd (m p a)
may_permanent k load Always b m p a = refl
may_permanent k load Choosable b m p a = absurd (m.1 p)
