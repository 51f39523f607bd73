-- From the choices beside each train, in their order, to what the walk finds.
use mathlib.Core.Path.{◌≡◌, refl, sym, ◌∙◌, ap, subst, subst⁻¹}
use mathlib.Core.Logic.{◌⊎◌, inl, inr, ⊎_elim}
use mathlib.Core.Bool.{Bool, true, false}
use Prim.Native.Nat.{ℕ, zero, suc, ◌+◌, ◌-◌, ◌/◌, ◌^◌, ◌≤◌, ◌<◌}
use native.Mathlib.Omega.{arith}
use native.Mathlib.Nat.{lt_of_lt_of_le, add-zero}
use native.Mathlib.Decide.{dec_lt}
use lib.Count.{ones}
use lib.Pow.{pow_mono}
use Rattle.arithmetic.proofs.Cases.{by_cases}
use Rattle.arithmetic.specs.decides.Decides.{Decides}
use Rattle.arithmetic.proofs.Deciding.{decided}
use Rattle.sets.specs.declared.Combination.{Combination}
use Rattle.sets.specs.declared.Loads.{Loads}
use Rattle.sums.specs.declared.Sums.{Sums}
use Rattle.sets.specs.Sets.{bit, row, Permitted}
use Rattle.sets.specs.Bounded.{Bounded}
use Rattle.sets.specs.Led.{Led}
use Rattle.sets.specs.steps.Deciding.{Arises, Admits}
use Rattle.sums.specs.declared.carried.Carried.{Carried}
use Rattle.sums.specs.steps.Sums.{sums_from, Room}
use Rattle.sums.specs.steps.Carried.{carried_set, wind_count, earthquake_count}
use Rattle.sums.proofs.Adding.{room_all, rows_is}
use Rattle.sets.proofs.Permitting.{Fit}
use Rattle.sums.proofs.permitted.Admitted.{admitted_permitted, admitted}
use Rattle.checks.specs.declared.Base.{Base}
use Rattle.checks.specs.Sized.{Sized}
use Rattle.checks.specs.declared.Check.{Check}
use Rattle.checks.specs.declared.Check.TheVariants.{OP, OM, SL, PR, RK}
use Rattle.checks.specs.declared.Figure.{Figure}
use Rattle.checks.specs.set_figures.Figures.{Shows}
use Rattle.checks.specs.Order.{side}
use Rattle.checks.specs.limits.Limits.{Limit}
use Rattle.checks.specs.service.Service.{Service}
use Rattle.checks.specs.steps.HasCheck.{HasCheck}
use Rattle.checks.proofs.limits.Limiting.{serves_sliding, sliding_serves, pressure_limited}
use Rattle.checks.proofs.Ranking.{ranks_map}
use Rattle.checks.proofs.set_figures.Showing.{by_sums_shows, shows_one}
use Rattle.weighing.specs.declared.Worst.{Worst}
use Rattle.weighing.specs.declared.ranked.RankedSet.{RankedSet}
use Rattle.weighing.specs.steps.Ranked.{order_of_ties, Offered}
use Rattle.worst.specs.declared.choices.Stance.{Stance}
use Rattle.worst.specs.declared.trains.Trains.{Trains}
use Rattle.worst.specs.steps.Stance.{held_by, leading, choosable, pick, stance_at}
use Rattle.worst.specs.steps.Trains.{LeadersIs}
use Rattle.worst.specs.steps.Order.{choice}
use Rattle.weighing.specs.steps.Weighs.{ShowsCarried, SmallCarried, Low, Words, ranked_of, Weighed, Weighs, Visits}
use Rattle.weighing.specs.steps.Bounds.{bounds_of, Within}
use Rattle.worst.specs.declared.step_table.StepTable.{StepTable}
use Rattle.worst.specs.steps.Steps.{reached}
use Rattle.worst.specs.steps.StepTable.{TableIs}
use Rattle.worst.specs.steps.Search.{count_of, set_of, carried_of, Visited, none_yet, one_more, WalkedChoices, Walked}
use Rattle.weighing.proofs.Weighing.{weighed_or_not}
use Rattle.weighing.proofs.Reading.{small_carried, winds_read, earthquakes_read, set_read, key_ordered, carried_shows}
use Rattle.weighing.proofs.bounds.Keeping.{within_visits}
use Rattle.weighing.proofs.Searching.{Extends, nothing_yet, smaller, offer, skip, ends_named, ends_empty}
use Rattle.worst.proofs.choices.Choices.{pick_low, pick_bit, Made, made, sums_number}
use Rattle.worst.proofs.Order.{visited_once}
use Rattle.worst.proofs.Stepping.{carried_is}
use Rattle.worst.proofs.choices.Rows.{stance_says, MayStand, says_may, may_acting, may_permanent}
use Rattle.worst.proofs.choices.Beside.{beside_may, trains_in, choice_trained, way_of, keeps_stances}

-- ---- the sets gone through, and what is found over all of them
-- those beside the trains of the first ways
unfoldable pub GoneThrough : Combination → Loads → ℕ → ℕ → ℕ → Type 0
GoneThrough combination loads leaders ways t =
    (way : ℕ) × (way < ways) × (k : ℕ) × (k < 2 ^ count_of combination loads (trains_in leaders way)) × (t ≡ set_of combination loads (trains_in leaders way) k)

-- and those of the first n steps beside the next
unfoldable GoneOn : Combination → Loads → ℕ → ℕ → ℕ → ℕ → Type 0
GoneOn combination loads leaders way n t = GoneThrough combination loads leaders way t ⊎ ((k : ℕ) × (k < n) × (t ≡ set_of combination loads (trains_in leaders way) k))

-- the worst so far, check by check, after the sets of F
pub record SoFar (combination : Combination) (base : Base) (loads : Loads) (serves : Bool) (F : ℕ → Type 0) (none : RankedSet) (worst : Worst) : Type 0 where
  pub weighed : (check : Check) → Weighed serves base check → Extends (side check) (Permitted combination loads) (Shows check base loads) F none (ranked_of check worst)
  pub only : (check : Check) → ((ranked_of check worst).set ≡ 0 → ⊥) → Weighed serves base check

-- ---- the choices beside any trains
module _ (combination : Combination) (base : Base) (loads : Loads) (trains : Trains) (sized : Sized base) (bounded : Bounded loads) where
  set_within : (k : ℕ) → set_of combination loads trains k < 2 ^ loads.count
  unfolding set_of
  set_within k = pick_low (stance_at combination loads trains) loads.count (choice (count_of combination loads trains) k)

  set_low : (k : ℕ) → set_of combination loads trains k < 65536
  set_low k = lt_of_lt_of_le (set_within k) (pow_mono {j = 16} bounded.count)

  -- the carried sums of step k: they are small, and tell its set
  sums : ℕ → Sums
  sums k = sums_from base.width loads (set_of combination loads trains k)

  abbrev carried : ℕ → Carried
  carried k = carried_of combination base.width loads trains k

  room : (k : ℕ) → Room 16 (sums k)
  unfolding sums
  room k = room_all base.width loads (set_of combination loads trains k) sized.width bounded

  pub small_at : (k : ℕ) → SmallCarried (carried k)
  unfolding carried_of sums
  small_at k = small_carried (sums k) (room k)

  set_number : (k : ℕ) → (sums k).set ≡ set_of combination loads trains k
  unfolding sums sums_from
  set_number k = sums_number base.width loads _ loads.count (set_within k)

  number_low : (k : ℕ) → (sums k).set < 65536
  number_low k = subst⁻¹ (λ (n : ℕ). n < 65536) (set_number k) (set_low k)

  set_is : (k : ℕ) → carried_set (carried k) ≡ set_of combination loads trains k
  unfolding carried_of sums
  set_is k = set_read (sums k) (room k) (number_low k) ∙ set_number k

  pub keyed : (k : ℕ) → 0 < carried_set (carried k) → (carried k).key / 65536 ≡ order_of_ties (carried_set (carried k))
  unfolding carried_of sums
  keyed k = key_ordered (sums k) (room k) (number_low k) (rows_is base.width loads (set_of combination loads trains k) (set_within k) ∙ ap ones (sym (set_number k)))

  -- what a walk by the table carries
  pub carried_there : (table : StepTable) → TableIs combination base.width loads trains table → (k : ℕ) → k ≤ table.last → reached table.steps table.first k ≡ carried k
  carried_there table f k h = carried_is combination base.width loads trains table f sized.width bounded k (omega (arith, f.last))

  -- one step more: its set is weighed, if its rows may stand in it and it is admitted
  module _ (arises : Arises combination loads) (n : ℕ) (fits : Fit combination loads (set_of combination loads trains n)) {F H : ℕ → Type 0}
      (more : (t : ℕ) → H t → F t ⊎ (t ≡ set_of combination loads trains n)) where
    pub one_step : (serves : Bool) (none : RankedSet) {b r : Worst} → Visits combination serves base (carried n) b r → SoFar combination base loads serves F none b → SoFar combination base loads serves H none r
    unfolding carried_of sums
    one_step serves none {b} {r} v so =
        record {
          weighed = λ check on. ⊎_elim (inside check on) (outside check on) v.came;
          only = λ check found. by_cases (weighed_or_not serves base check) (λ on. on) (λ off. so.only check (λ z. found (kept check off z)));
        }
      where
        kept : (check : Check) → (Weighed serves base check → ⊥) → (ranked_of check b).set ≡ 0 → (ranked_of check r).set ≡ 0
        kept check off z =
            ⊎_elim (λ w. ap (λ (x : RankedSet). x.set) (w.1.left check off) ∙ z) (λ w. ap (λ (x : Worst). (ranked_of check x).set) w.1 ∙ z) v.came

        set : ℕ
        set = set_of combination loads trains n

        admits : Admits combination (wind_count (carried n)) (earthquake_count (carried n)) (carried_set (carried n)) ≡ Admits combination (sums n).winds (sums n).earthquakes set
        admits = λ i. Admits combination (winds_read (sums n) (room n) i) (earthquakes_read (sums n) (room n) i) (set_is n i)

        inside : (check : Check) → Weighed serves base check → Admits combination (wind_count (carried n)) (earthquake_count (carried n)) (carried_set (carried n)) × Weighs serves base (carried n) b r
            → Extends (side check) (Permitted combination loads) (Shows check base loads) H none (ranked_of check r)
        inside check on w =
            offer (side check) (Permitted combination loads) (Shows check base loads) set (so.weighed check on) more
            (admitted_permitted base.width loads set combination fits arises (subst (λ (A : Type 0). A) admits w.0))
            (shown (w.1.offered check on))
          where
            shown : Offered (side check) (ShowsCarried check base (carried n)) (ranked_of check b) (carried_set (carried n)) (ranked_of check r) → Offered (side check) (Shows check base loads set) (ranked_of check b) set (ranked_of check r)
            shown o =
                subst (λ (s : ℕ). Offered (side check) (Shows check base loads set) (ranked_of check b) s (ranked_of check r)) (set_is n)
                (record {
                  rank = o.rank;
                  ranks = ranks_map (λ f h. by_sums_shows base loads set check f (carried_shows (sums n) (room n) check base f h)) o.ranks;
                  worse = o.worse;
                })

        outside : (check : Check) → Weighed serves base check → (Admits combination (wind_count (carried n)) (earthquake_count (carried n)) (carried_set (carried n)) → ⊥) × (r ≡ b)
            → Extends (side check) (Permitted combination loads) (Shows check base loads) H none (ranked_of check r)
        outside check on w =
            subst⁻¹ (λ (x : Worst). Extends (side check) (Permitted combination loads) (Shows check base loads) H none (ranked_of check x)) w.1
            (skip (side check) (Permitted combination loads) (Shows check base loads) set (so.weighed check on) more
            (λ p. w.0 (subst⁻¹ (λ (A : Type 0). A) admits (admitted base.width loads set combination p))))

  -- steps within the bounds leave the worst so far as it is
  pub passed_over : (serves : Bool) {b worst : Worst} → Low worst → Words worst → (from n : ℕ) → Visited combination serves base carried (from + 1) b worst
      → ((k : ℕ) → from < k → k < from + 1 + n → Within base.width (bounds_of serves base worst) (carried k)) → Visited combination serves base carried (from + 1 + n) b worst
  passed_over serves {b} {worst} low words from zero so all = subst⁻¹ (λ (k : ℕ). Visited combination serves base carried k b worst) (add-zero (from + 1)) so
  passed_over serves {b} {worst} low words from (suc n) so all =
      let k = from + 1 + n in
      let e : from + 1 + suc n ≡ suc k = omega arith in
      subst⁻¹ (λ (m : ℕ). Visited combination serves base carried m b worst) e
      (one_more (passed_over serves low words from n so (λ k h l. all k h (omega arith)))
      (within_visits combination serves base worst (carried k) sized low words (small_at k) (keyed k) (all k (omega arith) (omega arith))))

-- ---- the choices beside the trains of each way
module _ (combination : Combination) (base : Base) (loads : Loads) (sized : Sized base) (bounded : Bounded loads) (led : Led loads) (arises : Arises combination loads) (leaders : ℕ)
    (is : LeadersIs combination loads loads.count leaders) where
  -- the rows of a choice may stand in its set
  fits : (way k : ℕ) → Fit combination loads (set_of combination loads (trains_in leaders way) k)
  unfolding Fit set_of stance_at
  fits way k = (
    set_within combination base loads (trains_in leaders way) sized bounded k,
    λ i h. record {
      acting = λ b. may_acting combination (row loads i) (stance i) _ (may i) (sym (own i h) ∙ b);
      permanent = λ c a. own i h ∙ may_permanent combination (row loads i) (stance i) _ (may i) c a;
      trained = choice_trained combination loads bounded.count led leaders is way _ i h;
    },
  )
    where
      stance : ℕ → Stance
      stance = stance_at combination loads (trains_in leaders way)

      may : (i : ℕ) → MayStand combination (row loads i) (stance i)
      may i = beside_may (trains_in leaders way) i combination (row loads i) _ _ (says_may combination (row loads i) _ (stance_says combination (row loads i)))

      own : (i : ℕ) → i < loads.count → bit (set_of combination loads (trains_in leaders way) k) i ≡ held_by (stance i) (bit (choice (count_of combination loads (trains_in leaders way)) k) (choosable stance i))
      own i h = pick_bit stance loads.count (choice (count_of combination loads (trains_in leaders way)) k) i h

  -- the first n steps beside the trains of a way
  visited_on : (serves : Bool) (none : RankedSet) (way : ℕ) {n : ℕ} {b r : Worst} → Visited combination serves base (carried_of combination base.width loads (trains_in leaders way)) n b r
      → SoFar combination base loads serves (GoneThrough combination loads leaders way) none b → SoFar combination base loads serves (GoneOn combination loads leaders way n) none r
  unfolding GoneOn
  visited_on serves none way none_yet so =
      record {
        weighed = λ check on. smaller (side check) (Permitted combination loads) (Shows check base loads) (λ t. ⊎_elim (λ g. g) (λ w. absurd (omega (arith, w.1)))) (so.weighed check on);
        only = so.only;
      }
  visited_on serves none way (one_more {n = n} before v) so =
      one_step combination base loads (trains_in leaders way) sized bounded arises n (fits way n)
      (λ t. ⊎_elim (λ g. inl (inl g)) (λ w. by_cases (dec_lt w.0 n) (λ h. inl (inr (w.0, h, w.2))) (λ h. let e : w.0 ≡ n = omega (arith, w.1) in inr (w.2 ∙ ap (set_of combination loads (trains_in leaders way)) e))))
      serves none v (visited_on serves none way before so)

  pub one_way : (serves : Bool) (none : RankedSet) (way : ℕ) {b r : Worst} → WalkedChoices combination serves base loads (trains_in leaders way) b r
      → SoFar combination base loads serves (GoneThrough combination loads leaders way) none b → SoFar combination base loads serves (GoneThrough combination loads leaders (way + 1)) none r
  unfolding GoneThrough GoneOn
  one_way serves none way w so =
      let on = visited_on serves none way w.visited so in
      record {
        weighed = λ check h. smaller (side check) (Permitted combination loads) (Shows check base loads) through (on.weighed check h);
        only = on.only;
      }
    where
      through : (t : ℕ) → GoneThrough combination loads leaders (way + 1) t → GoneOn combination loads leaders way (2 ^ count_of combination loads (trains_in leaders way)) t
      through t (w, h, k, l, e) =
          by_cases (dec_lt w way) (λ before. inl (w, before, k, l, e))
          (λ before.
          let d : w ≡ way = omega arith in
          inr (k, subst (λ (x : ℕ). k < 2 ^ count_of combination loads (trains_in leaders x)) d l, e ∙ ap (λ (x : ℕ). set_of combination loads (trains_in leaders x) k) d))

  -- every permitted set is a choice beside the trains of a way, and every choice that of a step
  every : (t : ℕ) → Permitted combination loads t → GoneThrough combination loads leaders (2 ^ choosable (leading leaders) 16) t
  unfolding GoneThrough set_of count_of Made
  every t p =
      let w = way_of leaders t in
      let stance = stance_at combination loads (trains_in leaders w.0) in
      let m = made stance t loads.count p.within (keeps_stances combination loads bounded.count led leaders is t p w.0 w.2) in
      let v = visited_once (choosable stance loads.count) m.0 m.1 in
      (w.0, w.1, v.0, v.1, sym (ap (pick stance loads.count) v.2 ∙ m.2))

  pub all_found : (serves : Bool) (n : ℕ) (none : RankedSet) (worst : Worst) → n ≡ 2 ^ choosable (leading leaders) 16 → none.set ≡ 0 → none.rank ≡ 2 ^ 64 - 1
      → Decides serves (Service combination) → SoFar combination base loads serves (GoneThrough combination loads leaders n) none worst → Walked combination base loads worst
  unfolding Weighed HasCheck Limit Service
  all_found serves n none worst e z l d so =
      record {
        has = λ check found. had check (so.only check found);
        found = λ check has. record {
          named = λ found v has_rank ranked. ends_named _ _ _ (over check has) every some rows (one check) z l v has_rank ranked found;
          none = λ empty. ends_empty _ _ _ (over check has) every some rows (one check) z l empty;
        };
      }
    where
      had : (check : Check) → Weighed serves base check → HasCheck combination check base
      had OP h = decided serves h d
      had OM h = decided serves h d
      had SL h = serves_sliding combination (decided serves h d)
      had PR h = pressure_limited combination base.allowable
      had RK h = (250, (h, refl))

      serving : (serves : Bool) → Decides serves (Service combination) → Service combination → serves ≡ true
      serving true d s = refl
      serving false d s = absurd (d s)

      weighed : (check : Check) → HasCheck combination check base → Weighed serves base check
      weighed OP h = serving serves d h
      weighed OM h = serving serves d h
      weighed SL h = serving serves d (sliding_serves combination h)
      weighed PR h = tt
      weighed RK h = h.1.0

      over : (check : Check) → HasCheck combination check base → Extends (side check) (Permitted combination loads) (Shows check base loads) (GoneThrough combination loads leaders (2 ^ choosable (leading leaders) 16)) none (ranked_of check worst)
      over check has = subst (λ (m : ℕ). Extends (side check) (Permitted combination loads) (Shows check base loads) (GoneThrough combination loads leaders m) none (ranked_of check worst)) e (so.weighed check (weighed check has))

      some : (t : ℕ) → Permitted combination loads t → 0 < t
      some t p = p.some

      rows : (t : ℕ) → Permitted combination loads t → t < 65536
      rows t p = lt_of_lt_of_le p.within (pow_mono {j = 16} bounded.count)

      one : (check : Check) (t : ℕ) (v w : Figure) → Shows check base loads t v → Shows check base loads t w → v ≡ w
      one check t v w p q = shows_one check base loads t v w p q

  pub nothing_passed : (serves : Bool) (none : RankedSet) (worst : Worst) → none.set ≡ 0 → ((check : Check) → ranked_of check worst ≡ none) → SoFar combination base loads serves (GoneThrough combination loads leaders 0) none worst
  unfolding GoneThrough
  nothing_passed serves none worst z e =
      record {
        weighed = λ check on. subst⁻¹ (Extends (side check) (Permitted combination loads) (Shows check base loads) (GoneThrough combination loads leaders 0) none) (e check)
            (nothing_yet (side check) (Permitted combination loads) (Shows check base loads) (λ t w. omega (arith, w.1)));
        only = λ check found. absurd (found (ap (λ (x : RankedSet). x.set) (e check) ∙ z));
      }
