-- The rules of 4 are asked in their order: those that are passed do not hold, so that the next that holds is the first; and no two share a number.
use Prim.Native.Nat.{ℕ, ◌+◌, ◌≤◌, ◌<◌}
use native.Mathlib.Decide.{dec_lt}
use native.Mathlib.Omega.{arith}
use mathlib.Core.Path.{◌≡◌, refl, sym, ap, subst, ◌∙◌}
use mathlib.Core.Logic.{inl, inr, ⊎_elim}
use mathlib.Core.List.{[], ◌∷◌}
use lib.ListN.{get_or}
use Rattle.arithmetic.proofs.Cases.{impossible, by_cases}
use Rattle.kinds.specs.declared.Role.{Role}
use Rattle.kinds.specs.declared.Role.TheVariants.{Base, Scour, Clearance, Load}
use Rattle.rows.specs.declared.keys.Keyed.{Keyed}
use Rattle.jobs.specs.declared.Job.{Job}
use Rattle.jobs.specs.declared.stages.Stage.{Stage}
use Rattle.jobs.specs.declared.stages.Stage.TheVariants.{Unbegun, Dry, Scoured, Crossed}
use Rattle.jobs.specs.declared.misplaced.Misplaced.{Misplaced}
use Rattle.jobs.specs.declared.misplaced.Misplaced.TheVariants.{NoBase, NoLoad, OtherKey, SecondScour, LateScour, NoScour, SecondClearance, LateClearance, SurplusLoad}
use Rattle.std.specs.Prelude.{Option, Some, None}
use Rattle.jobs.specs.stages.Fits.{Fits}
use Rattle.jobs.specs.stages.Rows.{HasScour, HasClearance}
use Rattle.jobs.specs.misplaced.Rules.{rule_number, FirstRule}
use Rattle.jobs.specs.misplaced.Placing.{Holds, PlacingSays, PlacingIs}

-- no two rules share a number
abbrev rule_at : ℕ → Misplaced
rule_at n = get_or (NoBase ∷ NoBase ∷ NoLoad ∷ OtherKey ∷ SecondScour ∷ LateScour ∷ NoScour ∷ SecondClearance ∷ LateClearance ∷ SurplusLoad ∷ []) n NoBase

at_number : (w : Misplaced) → rule_at (rule_number w) ≡ w
at_number NoBase = refl
at_number NoLoad = refl
at_number OtherKey = refl
at_number SecondScour = refl
at_number LateScour = refl
at_number NoScour = refl
at_number SecondClearance = refl
at_number LateClearance = refl
at_number SurplusLoad = refl

pub rule_one : (v w : Misplaced) → rule_number v ≡ rule_number w → v ≡ w
rule_one v w e = sym (at_number v) ∙ ap rule_at e ∙ at_number w

-- from 1 to 9
numbered : (w : Misplaced) → (1 ≤ rule_number w) × (rule_number w ≤ 9)
numbered NoBase = (omega arith, omega arith)
numbered NoLoad = (omega arith, omega arith)
numbered OtherKey = (omega arith, omega arith)
numbered SecondScour = (omega arith, omega arith)
numbered LateScour = (omega arith, omega arith)
numbered NoScour = (omega arith, omega arith)
numbered SecondClearance = (omega arith, omega arith)
numbered LateClearance = (omega arith, omega arith)
numbered SurplusLoad = (omega arith, omega arith)

-- one rule is the first
pub first_rule_one : {Rule : Misplaced → Type 0} {v w : Misplaced} → FirstRule Rule v → FirstRule Rule w → v ≡ w
first_rule_one {v = v} {w} p q =
    let a = p.first w q.holds in
    let b = q.first v p.holds in
    rule_one v w (omega arith)

-- a row has one placing
pub placing_one : (Rule : Misplaced → Type 0) (a b : Option Misplaced) → PlacingSays Rule a → PlacingSays Rule b → a ≡ b
placing_one Rule None None p q = refl
placing_one Rule None (Some w) p q = absurd (p w q.holds)
placing_one Rule (Some v) None p q = absurd (q v p.holds)
placing_one Rule (Some v) (Some w) p q = ap Some (first_rule_one p q)

pub rule_of_one : (j : Job) (r : Keyed) (a b : Option Misplaced) → PlacingIs j r a → PlacingIs j r b → a ≡ b
rule_of_one j r a b p q = placing_one _ a b p q

-- rules that hold of the same rows have the same first
pub first_map : {A B : Misplaced → Type 0} {w : Misplaced} → ((o : Misplaced) → A o → B o) → ((o : Misplaced) → B o → A o) → FirstRule A w → FirstRule B w
first_map {w = w} f g p = record { holds = f w p.holds; first = λ o h. p.first o (g o h) }

pub placing_map : (A B : Misplaced → Type 0) (p : Option Misplaced) → ((o : Misplaced) → A o → B o) → ((o : Misplaced) → B o → A o) → PlacingSays A p → PlacingSays B p
placing_map A B None f g n = λ o h. n o (g o h)
placing_map A B (Some w) f g p = first_map f g p

-- the rules below a number are passed
module _ (Rule : Misplaced → Type 0) where
  abbrev Past : ℕ → Type 0
  Past n = (o : Misplaced) → Rule o → n ≤ rule_number o

  none_passed : Past 1
  none_passed o h = (numbered o).0

  passed : (w : Misplaced) → Past (rule_number w) → (Rule w → ⊥) → Past (rule_number w + 1)
  passed w p n o h =
      let a = p o h in
      by_cases (dec_lt (rule_number w) (rule_number o)) (λ b. omega arith) (λ b. absurd (n (subst Rule (rule_one o w (omega arith)) h)))

  all_passed : Past 10 → (o : Misplaced) → Rule o → ⊥
  all_passed p o h =
      let a = p o h in
      let b = numbered o in
      omega arith

-- which rules are passed, by what is known of the row and its job
module _ (role : Role) (stage : Stage) (count : ℕ) (same : Type 0) where
  abbrev Here : Misplaced → Type 0
  Here = Holds role stage count same

  not_scour : (role ≡ Scour → ⊥) → Past Here 4 → Past Here 6
  not_scour n p = passed Here LateScour (passed Here SecondScour p (λ h. n h.0)) (λ h. n h.0)

  not_clearance : (role ≡ Clearance → ⊥) → Past Here 6 → Past Here 9
  not_clearance n p =
      passed Here LateClearance (passed Here SecondClearance (passed Here NoScour p (λ h. n h.0)) (λ h. n h.0)) (λ h. n h.0)

  -- a B row
  module _ (base : role ≡ Base) where
    pub base_short : (stage ≡ Unbegun → ⊥) → count ≡ 0 → FirstRule Here NoLoad
    base_short begun few = record { holds = (base, begun, few); first = passed Here NoBase (none_passed Here) (λ h. h.0 base) }

    pub base_in_place : ((stage ≡ Unbegun → ⊥) → count ≡ 0 → ⊥) → (o : Misplaced) → Here o → ⊥
    base_in_place n =
        let first = passed Here NoLoad (passed Here NoBase (none_passed Here) (λ h. h.0 base)) (λ h. n h.1 h.2) in
        let third = passed Here OtherKey first (λ h. h.0 base) in
        let eighth = not_clearance (λ e. impossible cc) (not_scour (λ e. impossible cc) third) in
        all_passed Here (passed Here SurplusLoad eighth (λ h. let e = h.0 in impossible cc))

  -- another row
  module _ (other : role ≡ Base → ⊥) where
    pub unbegun : stage ≡ Unbegun → FirstRule Here NoBase
    unbegun e = record { holds = (other, e); first = none_passed Here }

    module _ (begun : stage ≡ Unbegun → ⊥) where
      second : Past Here 3
      second = passed Here NoLoad (passed Here NoBase (none_passed Here) (λ h. begun h.1)) (λ h. other h.0)

      pub other_key : (same → ⊥) → FirstRule Here OtherKey
      other_key n = record { holds = (other, begun, n); first = second }

      -- with the job's key
      module _ (key : same) where
        third : Past Here 4
        third = passed Here OtherKey second (λ h. h.2 key)

        module _ (scour : role ≡ Scour) where
          pub second_scour : HasScour stage → FirstRule Here SecondScour
          second_scour s = record { holds = (scour, s); first = third }

          fourth : (HasScour stage → ⊥) → Past Here 5
          fourth n = passed Here SecondScour third (λ h. n h.1)

          pub late_scour : (HasScour stage → ⊥) → 1 ≤ count → FirstRule Here LateScour
          late_scour n l = record { holds = (scour, l); first = fourth n }

          pub scour_in_place : (HasScour stage → ⊥) → count ≡ 0 → (o : Misplaced) → Here o → ⊥
          scour_in_place n z =
              let fifth = passed Here LateScour (fourth n) (λ h. let l = h.1 in omega arith) in
              let eighth = not_clearance (λ e. impossible cc) fifth in
              all_passed Here (passed Here SurplusLoad eighth (λ h. let e = h.0 in impossible cc))

        module _ (clearance : role ≡ Clearance) where
          fifth : Past Here 6
          fifth = not_scour (λ e. impossible cc) third

          pub no_scour : (HasScour stage → ⊥) → FirstRule Here NoScour
          no_scour n = record { holds = (clearance, begun, n); first = fifth }

          module _ (s : HasScour stage) where
            sixth : Past Here 7
            sixth = passed Here NoScour fifth (λ h. h.2 s)

            pub second_clearance : HasClearance stage → FirstRule Here SecondClearance
            second_clearance c = record { holds = (clearance, c); first = sixth }

            seventh : (HasClearance stage → ⊥) → Past Here 8
            seventh n = passed Here SecondClearance sixth (λ h. n h.1)

            pub late_clearance : (HasClearance stage → ⊥) → 1 ≤ count → FirstRule Here LateClearance
            late_clearance n l = record { holds = (clearance, l); first = seventh n }

            pub clearance_in_place : (HasClearance stage → ⊥) → count ≡ 0 → (o : Misplaced) → Here o → ⊥
            clearance_in_place n z =
                let eighth = passed Here LateClearance (seventh n) (λ h. let l = h.1 in omega arith) in
                all_passed Here (passed Here SurplusLoad eighth (λ h. let e = h.0 in impossible cc))

        module _ (load : role ≡ Load) where
          eighth : Past Here 9
          eighth = not_clearance (λ e. impossible cc) (not_scour (λ e. impossible cc) third)

          pub surplus_load : 16 ≤ count → FirstRule Here SurplusLoad
          surplus_load l = record { holds = (load, l); first = eighth }

          pub load_in_place : count < 16 → (o : Misplaced) → Here o → ⊥
          load_in_place l = all_passed Here (passed Here SurplusLoad eighth (λ h. let k = h.1 in omega arith))

-- the rules go by whether the keys are the same, however that is said
pub holds_map : (role : Role) (stage : Stage) (count : ℕ) (P Q : Type 0) → (Q → P) → (o : Misplaced) → Holds role stage count P o → Holds role stage count Q o
holds_map role stage count P Q f NoBase h = h
holds_map role stage count P Q f NoLoad h = h
holds_map role stage count P Q f OtherKey h = (h.0, h.1, λ q. h.2 (f q))
holds_map role stage count P Q f SecondScour h = h
holds_map role stage count P Q f LateScour h = h
holds_map role stage count P Q f NoScour h = h
holds_map role stage count P Q f SecondClearance h = h
holds_map role stage count P Q f LateClearance h = h
holds_map role stage count P Q f SurplusLoad h = h

-- no rule holds of a row that is in place
pub fits_unbroken : (role : Role) (stage : Stage) (count : ℕ) (same : Type 0) → Fits role stage count same → (o : Misplaced) → Holds role stage count same o → ⊥
fits_unbroken Base stage count same w = base_in_place Base stage count same refl (λ b z. ⊎_elim b (λ l. omega arith) w)
fits_unbroken Scour stage count same w =
    let dry = w.0 in
    scour_in_place Scour stage count same (λ e. impossible cc) (λ e. impossible cc) w.2 refl (λ h. subst HasScour dry h) w.1
fits_unbroken Clearance stage count same w =
    let scoured = w.0 in
    clearance_in_place Clearance stage count same (λ e. impossible cc) (λ e. impossible cc) w.2 refl (subst HasScour (sym scoured) tt) (λ h. subst HasClearance scoured h) w.1
fits_unbroken Load stage count same w = load_in_place Load stage count same (λ e. impossible cc) w.0 w.2 refl w.1

-- and a row of which none holds is in place
module _ (count : ℕ) (same : Type 0) where
  base_fits : (stage : Stage) → ((o : Misplaced) → Holds Base stage count same o → ⊥) → Fits Base stage count same
  base_fits Unbegun n = inl refl
  base_fits Dry n = by_cases (dec_lt 0 count) (λ l. inr l) (λ l. absurd (n NoLoad (refl, λ e. impossible cc, omega arith)))
  base_fits Scoured n = by_cases (dec_lt 0 count) (λ l. inr l) (λ l. absurd (n NoLoad (refl, λ e. impossible cc, omega arith)))
  base_fits Crossed n = by_cases (dec_lt 0 count) (λ l. inr l) (λ l. absurd (n NoLoad (refl, λ e. impossible cc, omega arith)))

  scour_fits : (stage : Stage) → same → ((o : Misplaced) → Holds Scour stage count same o → ⊥) → Fits Scour stage count same
  scour_fits Unbegun k n = absurd (n NoBase (λ e. impossible cc, refl))
  scour_fits Dry k n = by_cases (dec_lt 0 count) (λ l. absurd (n LateScour (refl, l))) (λ l. (refl, omega arith, k))
  scour_fits Scoured k n = absurd (n SecondScour (refl, tt))
  scour_fits Crossed k n = absurd (n SecondScour (refl, tt))

  clearance_fits : (stage : Stage) → same → ((o : Misplaced) → Holds Clearance stage count same o → ⊥) → Fits Clearance stage count same
  clearance_fits Unbegun k n = absurd (n NoBase (λ e. impossible cc, refl))
  clearance_fits Dry k n = absurd (n NoScour (refl, λ e. impossible cc, λ h. h))
  clearance_fits Scoured k n = by_cases (dec_lt 0 count) (λ l. absurd (n LateClearance (refl, l))) (λ l. (refl, omega arith, k))
  clearance_fits Crossed k n = absurd (n SecondClearance (refl, tt))

  load_fits : (stage : Stage) → same → ((o : Misplaced) → Holds Load stage count same o → ⊥) → Fits Load stage count same
  load_fits stage k n =
      (λ e. n NoBase (λ e. impossible cc, e), by_cases (dec_lt count 16) (λ l. l) (λ l. absurd (n SurplusLoad (refl, omega arith))), k)

  -- whether the key is the job's need not be decided, where all that is asked for is that the row cannot be out of place
  its_key : (role : Role) (stage : Stage) → (role ≡ Base → ⊥) → ((o : Misplaced) → Holds role stage count same o → ⊥) → (same → ⊥) → ⊥
  its_key role stage other n no_key = n OtherKey (other, λ e. n NoBase (other, e), no_key)

  pub unbroken_fits : (role : Role) (stage : Stage) → ((o : Misplaced) → Holds role stage count same o → ⊥) → (Fits role stage count same → ⊥) → ⊥
  unbroken_fits Base stage n out = out (base_fits stage n)
  unbroken_fits Scour stage n out = its_key Scour stage (λ e. impossible cc) n (λ k. out (scour_fits stage k n))
  unbroken_fits Clearance stage n out = its_key Clearance stage (λ e. impossible cc) n (λ k. out (clearance_fits stage k n))
  unbroken_fits Load stage n out = its_key Load stage (λ e. impossible cc) n (λ k. out (load_fits stage k n))
