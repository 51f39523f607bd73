-- Beside the trains that are there, every choice has each row's train, and every permitted set is a choice beside those of its rows that lead.
use mathlib.Core.Path.{◌≡◌, refl, sym, ◌∙◌, ap, ap₂, subst, subst⁻¹}
use mathlib.Core.Bool.{cond}
use Prim.Native.Nat.{ℕ, zero, suc, ◌^◌, ◌≤◌, ◌<◌}
use native.Mathlib.Omega.{arith}
use native.Mathlib.Decide.{ℕ_discrete}
use lib.Dec.{eqb}
use borrow.Author.Tests.{eq-eqb, ne_eqb}
use Rattle.arithmetic.proofs.Cases.{impossible, by_cases}
use Rattle.sets.specs.declared.Class.TheVariants.{Permanent, Free}
use Rattle.sets.specs.declared.Combination.{Combination}
use Rattle.sets.specs.declared.Load.{Load}
use Rattle.sets.specs.declared.Loads.{Loads}
use Rattle.sets.specs.Sets.{bit, row, HasTrain, Permitted}
use Rattle.sets.specs.Led.{Names, Led}
use Rattle.sets.proofs.Bits.{bit_not_one}
use Rattle.worst.specs.declared.choices.Stance.{Stance}
use Rattle.worst.specs.declared.choices.Stance.TheVariants.{Never, Always, Choosable}
use Rattle.worst.specs.declared.trains.Trains.{Trains}
use Rattle.worst.specs.steps.Stance.{by_class, stance_toward, beside, leading, held_by, choosable, pick, stance_at}
use Rattle.worst.specs.steps.Trains.{LeadersIs}
use Rattle.worst.proofs.choices.Choices.{pick_low, pick_bit, KeepsStances, Made, made}
use Rattle.worst.proofs.choices.Rows.{StanceSays, stance_says, stands_acting, MayStand, held_never, held_always}

-- ---- what a row is beside trains
module _ (trains : Trains) (i : ℕ) where
  pub follower_out : (n : ℕ) → (bit trains.present n ≡ 1 → ⊥) → beside trains i (suc n) Choosable ≡ Never
  unfolding beside
  follower_out n h = rw (ne_eqb (bit trains.present n) 1 h)

  pub follower_in : (n : ℕ) → bit trains.present n ≡ 1 → beside trains i (suc n) Choosable ≡ Choosable
  unfolding beside
  follower_in n h = rw (eq-eqb (bit trains.present n) 1 h)

  pub leader_in : bit trains.leaders i ≡ 1 → bit trains.present i ≡ 1 → beside trains i 0 Choosable ≡ Always
  unfolding beside
  leader_in l h = rw (eq-eqb (bit trains.leaders i) 1 l, eq-eqb (bit trains.present i) 1 h)

  pub leader_out : bit trains.leaders i ≡ 1 → (bit trains.present i ≡ 1 → ⊥) → beside trains i 0 Choosable ≡ Never
  unfolding beside
  leader_out l h = rw (eq-eqb (bit trains.leaders i) 1 l, ne_eqb (bit trains.present i) 1 h)

  pub other_choosable : (bit trains.leaders i ≡ 1 → ⊥) → beside trains i 0 Choosable ≡ Choosable
  unfolding beside
  other_choosable l = rw (ne_eqb (bit trains.leaders i) 1 l)

  -- it may stand so, if it may as it is alone
  module _ (k : Combination) (load : Load) where
    may_as : {a b : Stance} → a ≡ b → MayStand k load b → MayStand k load a
    may_as e m = subst⁻¹ (MayStand k load) e m

    pub beside_may : (train : ℕ) (a : Stance) → MayStand k load a → MayStand k load (beside trains i train a)
    unfolding MayStand beside
    beside_may train Never m = m
    beside_may train Always m = m
    beside_may zero Choosable m =
        by_cases (ℕ_discrete (bit trains.leaders i) 1)
        (λ l. by_cases (ℕ_discrete (bit trains.present i) 1) (λ h. may_as (leader_in l h) m.0) (λ h. may_as (leader_out l h) (λ c a. m.1 c)))
        (λ l. may_as (other_choosable l) m)
    beside_may (suc n) Choosable m =
        by_cases (ℕ_discrete (bit trains.present n) 1) (λ h. may_as (follower_in n h) m) (λ h. may_as (follower_out n h) (λ c a. m.1 c))

-- ---- the trains of one of the ways
unfoldable pub trains_in : ℕ → ℕ → Trains
trains_in leaders way = record { leaders = leaders; present = pick (leading leaders) 16 way }

module _ (leaders : ℕ) where
  pub leads : (i : ℕ) → bit leaders i ≡ 1 → leading leaders i ≡ Choosable
  unfolding leading
  leads i h = rw (eq-eqb (bit leaders i) 1 h)

  pub leads_not : (i : ℕ) → (bit leaders i ≡ 1 → ⊥) → leading leaders i ≡ Never
  unfolding leading
  leads_not i h = rw (ne_eqb (bit leaders i) 1 h)

  -- only leading rows are there
  present_leads : (way i : ℕ) → i < 16 → bit (pick (leading leaders) 16 way) i ≡ 1 → bit leaders i ≡ 1
  unfolding held_by
  present_leads way i h b =
      by_cases (ℕ_discrete (bit leaders i) 1) (λ l. l)
      (λ l. omega (arith, b, pick_bit (leading leaders) 16 way i h ∙ ap (λ (a : Stance). held_by a (bit way (choosable (leading leaders) i))) (leads_not i l)))

  -- the leading rows that are in a set, and the way in which they are there
  module _ (t : ℕ) where
    -- a leading row as it is in the set, and no other
    stance_in : ℕ → Stance
    stance_in i = cond (eqb (bit leaders i) 1) (cond (eqb (bit t i) 1) Always Never) Never

    leaders_in : ℕ
    leaders_in = pick stance_in 16 0

    -- a set with these leading rows and no others
    unfoldable HasLeaders : ℕ → Type 0
    HasLeaders s = (i : ℕ) → i < 16 → (bit leaders i ≡ 1 → bit s i ≡ bit t i) × ((bit leaders i ≡ 1 → ⊥) → bit s i ≡ 0)

    leaders_held : HasLeaders leaders_in
    unfolding HasLeaders leaders_in stance_in held_by
    leaders_held i h = (
      λ l. pick_bit stance_in 16 0 i h ∙ by_cases (ℕ_discrete (bit t i) 1)
          (λ b. rw (eq-eqb (bit leaders i) 1 l, eq-eqb (bit t i) 1 b) (sym b))
          (λ b. rw (eq-eqb (bit leaders i) 1 l, ne_eqb (bit t i) 1 b) (sym (bit_not_one t i b))),
      λ l. pick_bit stance_in 16 0 i h ∙ rw (ne_eqb (bit leaders i) 1 l) refl,
    )

    their_way : Made (leading leaders) leaders_in 16
    unfolding KeepsStances leaders_in HasLeaders
    their_way =
        made (leading leaders) leaders_in 16 (pick_low stance_in 16 0)
        (λ i h. (
          λ e. (leaders_held i h).1 (λ l. let q : ◌≡◌ {A = Stance} Choosable Never = sym (leads i l) ∙ e in impossible cc),
          λ e. by_cases (ℕ_discrete (bit leaders i) 1) (λ l. let q : ◌≡◌ {A = Stance} Choosable Always = sym (leads i l) ∙ e in impossible cc)
              (λ l. let q : ◌≡◌ {A = Stance} Never Always = sym (leads_not i l) ∙ e in impossible cc),
        ))

    pub way_of : (way : ℕ) × (way < 2 ^ choosable (leading leaders) 16) × ((i : ℕ) → i < 16 → bit leaders i ≡ 1 → bit (pick (leading leaders) 16 way) i ≡ bit t i)
    unfolding Made HasLeaders
    way_of = let m = their_way in (m.0, m.1, λ i h l. ap (λ (s : ℕ). bit s i) m.2 ∙ (leaders_held i h).0 l)

-- ---- the choices beside the trains of a way
module _ (combination : Combination) (loads : Loads) (few : loads.count ≤ 16) (led : Led loads) (leaders : ℕ) (is : LeadersIs combination loads loads.count leaders) where
  -- a leader that is named is choosable by itself
  leader_stance : (i n : ℕ) → Names loads i n → bit leaders n ≡ 1 → stance_toward combination (row loads n) ≡ Choosable
  unfolding by_class
  leader_stance i n names l = stands_acting combination (row loads n) (is.acts n l) ∙ ap (by_class combination) (led.leads i n names)

  module _ (way : ℕ) where
    abbrev stance : ℕ → Stance
    stance = stance_at combination loads (trains_in leaders way)

    -- what a row names is in every set beside it
    named_in : (i n : ℕ) → Names loads i n → bit (pick (leading leaders) 16 way) n ≡ 1 → stance n ≡ Always
    unfolding stance_at trains_in
    named_in i n names b =
        let l = present_leads leaders way n (omega (arith, led.there i n names)) b in
        ap₂ (beside (trains_in leaders way) n) (led.alone i n names) (leader_stance i n names l) ∙ leader_in (trains_in leaders way) n l b

    -- a row with a train is in a set only where its train is there
    follows_in : (i n : ℕ) → Names loads i n → (stance i ≡ Never → ⊥) → bit (pick (leading leaders) 16 way) n ≡ 1
    unfolding stance_at trains_in Names beside StanceSays
    follows_in i n names there =
        by_cases (ℕ_discrete (bit (pick (leading leaders) 16 way) n) 1) (λ b. b)
        (λ b. absurd (there (ap (λ (t : ℕ). beside (trains_in leaders way) i t (stance_toward combination (row loads i))) names.1 ∙ out (stance_toward combination (row loads i)) (stance_says combination (row loads i)) b)))
      where
        out : (a : Stance) → StanceSays combination (row loads i) a → (bit (pick (leading leaders) 16 way) n ≡ 1 → ⊥) → beside (trains_in leaders way) i (suc n) a ≡ Never
        out Never s b = refl
        out Always s b = let q : ◌≡◌ Free Permanent = sym (led.follows i n names) ∙ s.1 in impossible cc
        out Choosable s b = follower_out (trains_in leaders way) i n b

    -- so every choice has each row's train
    pub choice_trained : (k i : ℕ) → i < loads.count → bit (pick stance loads.count k) i ≡ 1 → HasTrain (row loads i).train (pick stance loads.count k)
    unfolding HasTrain held_by Names
    choice_trained k i h b = go (row loads i).train refl
      where
        held : held_by (stance i) (bit k (choosable stance i)) ≡ 1
        held = sym (pick_bit stance loads.count k i h) ∙ b

        go : (train : ℕ) → (row loads i).train ≡ train → HasTrain train (pick stance loads.count k)
        go zero e = tt
        go (suc n) e =
            let names : Names loads i n = (h, e) in
            let present = follows_in i n names (λ never. let z : held_by (stance i) (bit k (choosable stance i)) ≡ 0 = rw never refl in omega (arith, held)) in
            pick_bit stance loads.count k n (led.there i n names) ∙ rw (named_in i n names present) refl

  -- a permitted set keeps the stances beside its own leading rows
  module _ (t : ℕ) (p : Permitted combination loads t) (way : ℕ) (same : (i : ℕ) → i < 16 → bit leaders i ≡ 1 → bit (pick (leading leaders) 16 way) i ≡ bit t i) where
    Keeps : ℕ → Stance → Type 0
    Keeps i a = (a ≡ Never → bit t i ≡ 0) × (a ≡ Always → bit t i ≡ 1)

    keeps_never : (i : ℕ) {a : Stance} → a ≡ Never → bit t i ≡ 0 → Keeps i a
    unfolding Keeps
    keeps_never i e z = (λ _. z, λ f. let q : ◌≡◌ {A = Stance} Never Always = sym e ∙ f in impossible cc)

    keeps_always : (i : ℕ) {a : Stance} → a ≡ Always → bit t i ≡ 1 → Keeps i a
    unfolding Keeps
    keeps_always i e z = (λ f. let q : ◌≡◌ {A = Stance} Always Never = sym e ∙ f in impossible cc, λ _. z)

    keeps_choosable : (i : ℕ) {a : Stance} → a ≡ Choosable → Keeps i a
    unfolding Keeps
    keeps_choosable i e = (λ f. let q : ◌≡◌ {A = Stance} Choosable Never = sym e ∙ f in impossible cc, λ f. let q : ◌≡◌ {A = Stance} Choosable Always = sym e ∙ f in impossible cc)

    -- a row whose train is not there is not in the set
    no_train : (i n : ℕ) → Names loads i n → (bit (pick (leading leaders) 16 way) n ≡ 1 → ⊥) → bit t i ≡ 0
    unfolding Names HasTrain
    no_train i n names out =
        bit_not_one t i
        (λ b.
        let in_set : bit t n ≡ 1 = subst (λ (train : ℕ). HasTrain train t) names.1 (p.trained i names.0 b) in
        let there = led.there i n names in
        let l = is.leads i n names.0 names.1 (p.acting n there in_set) in
        out (same n (omega arith) l ∙ in_set))

    keeps_beside : (i : ℕ) → i < loads.count → (train : ℕ) → (row loads i).train ≡ train → (a : Stance) → stance_toward combination (row loads i) ≡ a → Keeps i (beside (trains_in leaders way) i train a)
    unfolding Keeps beside trains_in Names
    keeps_beside i h train e Never s = keeps_never i refl (held_never combination loads t i p h s)
    keeps_beside i h train e Always s = keeps_always i refl (held_always combination loads t i p h s)
    keeps_beside i h (suc n) e Choosable s =
        by_cases (ℕ_discrete (bit (pick (leading leaders) 16 way) n) 1)
        (λ b. keeps_choosable i (follower_in (trains_in leaders way) i n b))
        (λ b. keeps_never i (follower_out (trains_in leaders way) i n b) (no_train i n (h, e) b))
    keeps_beside i h zero e Choosable s =
        by_cases (ℕ_discrete (bit leaders i) 1)
        (λ l.
        let own = same i (omega arith) l in
        by_cases (ℕ_discrete (bit t i) 1)
        (λ b. keeps_always i (leader_in (trains_in leaders way) i l (own ∙ b)) b)
        (λ b. keeps_never i (leader_out (trains_in leaders way) i l (λ f. b (sym own ∙ f))) (bit_not_one t i b)))
        (λ l. keeps_choosable i (other_choosable (trains_in leaders way) i l))

    pub keeps_stances : KeepsStances (stance_at combination loads (trains_in leaders way)) t loads.count
    unfolding KeepsStances stance_at Keeps
    keeps_stances i h = keeps_beside i h (row loads i).train refl (stance_toward combination (row loads i)) refl
