-- The decision of a permitted set whose rows may stand in it: by the number of its wind and earthquake rows.
use Rattle.std.proofs.Common.{◌≡◌, ℕ, zero, suc, ◌<◌, Bool, sym, refl, subst, inl, inr, ⊎_elim, arith}
use native.Mathlib.Decide.{ℕ_discrete}
use Rattle.arithmetic.proofs.Cases.{by_cases}
use Rattle.arithmetic.specs.decides.Decides.{Decides}
use Rattle.arithmetic.proofs.Deciding.{decides_same}
use Rattle.sets.specs.declared.Class.{Class}
use Rattle.sets.specs.declared.Class.TheVariants.{Permanent, Free, Wind, Earthquake}
use Rattle.sets.specs.declared.Combination.{Combination}
use Rattle.sets.specs.declared.Combination.TheVariants.{I, II, III, IV}
use Rattle.sets.specs.declared.Load.{Load}
use Rattle.sets.specs.declared.Loads.{Loads}
use Rattle.sets.specs.Sets.{bit, row, Has, Mixed, Permitted}
use Rattle.sets.specs.steps.Deciding.{Arises, Together, Admits}
use Rattle.sets.proofs.Permitting.{Fit, fits_permitted}
use Rattle.sums.specs.Totals.{sum, counted}
use Rattle.sums.specs.steps.Sums.{is_wind, is_earthquake, sums_from}
use Rattle.sums.proofs.Adding.{winds_is, earthquakes_is}
use Rattle.sets.proofs.Bits.{bit_two}

-- ---- a natural sum is above zero exactly where a row of the set gives something
counted_some : (held n : ℕ) → 0 < counted held n → held < 2 → (held ≡ 1) × (0 < n)
unfolding counted
counted_some zero n h k = absurd (omega arith)
counted_some (suc held) n h k = (omega arith, h)

some_counted : (held n : ℕ) → held ≡ 1 → 0 < n → 0 < counted held n
unfolding counted
some_counted held n e h = rw e h

SomeGives : (Load → ℕ) → Loads → ℕ → ℕ → Type 0
SomeGives gives loads set n = (i : ℕ) × (i < n) × (bit set i ≡ 1) × (0 < gives (row loads i))

sum_some : (gives : Load → ℕ) (loads : Loads) (set n : ℕ) → 0 < sum gives loads set n → SomeGives gives loads set n
unfolding sum SomeGives
sum_some gives loads set zero h = absurd (omega arith)
sum_some gives loads set (suc n) h =
    by_cases (ℕ_discrete (sum gives loads set n) 0)
    (λ e. let w = counted_some (bit set n) (gives (row loads n)) (omega arith) (bit_two set n) in (n, omega arith, w.0, w.1))
    (λ e. let w = sum_some gives loads set n (omega arith) in (w.0, omega (arith, w.1), w.2, w.3))

some_sum : (gives : Load → ℕ) (loads : Loads) (set n i : ℕ) → i < n → bit set i ≡ 1 → 0 < gives (row loads i) → 0 < sum gives loads set n
unfolding sum
some_sum gives loads set zero i h b g = absurd (omega arith)
some_sum gives loads set (suc n) i h b g =
    by_cases (ℕ_discrete i n)
    (λ e. omega (arith, some_counted (bit set n) (gives (row loads n)) (subst (λ (k : ℕ). bit set k ≡ 1) e b) (subst (λ (k : ℕ). 0 < gives (row loads k)) e g)))
    (λ e. omega (arith, some_sum gives loads set n i (omega arith) b g))

wind_is : (c : Class) → 0 < is_wind c → c ≡ Wind
unfolding is_wind
wind_is Permanent h = absurd (omega arith)
wind_is Free h = absurd (omega arith)
wind_is Wind h = refl
wind_is Earthquake h = absurd (omega arith)

earthquake_is : (c : Class) → 0 < is_earthquake c → c ≡ Earthquake
unfolding is_earthquake
earthquake_is Permanent h = absurd (omega arith)
earthquake_is Free h = absurd (omega arith)
earthquake_is Wind h = absurd (omega arith)
earthquake_is Earthquake h = refl

one_wind : (c : Class) → c ≡ Wind → 0 < is_wind c
unfolding is_wind
one_wind c e = rw e (omega arith)

one_earthquake : (c : Class) → c ≡ Earthquake → 0 < is_earthquake c
unfolding is_earthquake
one_earthquake c e = rw e (omega arith)

-- ---- a set's wind and earthquake rows are what its sums count
module _ (width : ℕ) (loads : Loads) (set : ℕ) where
  pub has_wind : 0 < (sums_from width loads set).winds → Has Wind loads set
  unfolding Has SomeGives
  has_wind h =
      let w = sum_some (λ load. is_wind load.class) loads set loads.count (subst (λ (n : ℕ). 0 < n) (winds_is width loads set) h) in
      (w.0, w.1, w.2, wind_is _ w.3)

  pub wind_has : Has Wind loads set → 0 < (sums_from width loads set).winds
  unfolding Has
  wind_has w =
      subst (λ (n : ℕ). 0 < n) (sym (winds_is width loads set))
      (some_sum (λ load. is_wind load.class) loads set loads.count w.0 w.1 w.2 (one_wind _ w.3))

  pub has_earthquake : 0 < (sums_from width loads set).earthquakes → Has Earthquake loads set
  unfolding Has SomeGives
  has_earthquake h =
      let w = sum_some (λ load. is_earthquake load.class) loads set loads.count (subst (λ (n : ℕ). 0 < n) (earthquakes_is width loads set) h) in
      (w.0, w.1, w.2, earthquake_is _ w.3)

  pub earthquake_has : Has Earthquake loads set → 0 < (sums_from width loads set).earthquakes
  unfolding Has
  earthquake_has w =
      subst (λ (n : ℕ). 0 < n) (sym (earthquakes_is width loads set))
      (some_sum (λ load. is_earthquake load.class) loads set loads.count w.0 w.1 w.2 (one_earthquake _ w.3))

  no_wind : (sums_from width loads set).winds ≡ 0 → Has Wind loads set → ⊥
  no_wind e w = omega (arith, wind_has w)

  no_earthquake : (sums_from width loads set).earthquakes ≡ 0 → Has Earthquake loads set → ⊥
  no_earthquake e w = omega (arith, earthquake_has w)

  wind_none : (Has Wind loads set → ⊥) → (sums_from width loads set).winds ≡ 0
  wind_none n = by_cases (ℕ_discrete (sums_from width loads set).winds 0) (λ e. e) (λ e. absurd (n (has_wind (omega arith))))

  earthquake_none : (Has Earthquake loads set → ⊥) → (sums_from width loads set).earthquakes ≡ 0
  earthquake_none n = by_cases (ℕ_discrete (sums_from width loads set).earthquakes 0) (λ e. e) (λ e. absurd (n (has_earthquake (omega arith))))

  pub mixed_of : (combination : Combination) → Together combination (sums_from width loads set).winds (sums_from width loads set).earthquakes → Mixed combination loads set
  unfolding Together Mixed
  mixed_of I t = (no_wind t.0, no_earthquake t.1)
  mixed_of II t = (has_wind t.0, no_earthquake t.1)
  mixed_of III t = (no_wind t.0, has_earthquake t.1)
  mixed_of IV t = λ w q. ⊎_elim (λ e. no_wind e w) (λ e. no_earthquake e q) t

  pub together_of : (combination : Combination) → Mixed combination loads set → Together combination (sums_from width loads set).winds (sums_from width loads set).earthquakes
  unfolding Together Mixed
  together_of I m = (wind_none m.0, earthquake_none m.1)
  together_of II m = (wind_has m.0, earthquake_none m.1)
  together_of III m = (wind_none m.0, earthquake_has m.1)
  together_of IV m = by_cases (ℕ_discrete (sums_from width loads set).winds 0) inl (λ e. inr (earthquake_none (m (has_wind (omega arith)))))

  -- What is left to decide of a set whose rows may stand in it, of a combination that is checked.
  module _ (combination : Combination) where
    pub admitted_permitted : Fit combination loads set → Arises combination loads → Admits combination (sums_from width loads set).winds (sums_from width loads set).earthquakes set
        → Permitted combination loads set
    admitted_permitted f o a = fits_permitted combination loads set f o a.some (mixed_of combination a.together)

    pub admitted : Permitted combination loads set → Admits combination (sums_from width loads set).winds (sums_from width loads set).earthquakes set
    admitted p = record { some = p.some; together = together_of combination p.mixed }

    pub decides_permitted : (r : Bool) → Fit combination loads set → Arises combination loads → Decides r (Admits combination (sums_from width loads set).winds (sums_from width loads set).earthquakes set)
        → Decides r (Permitted combination loads set)
    decides_permitted r f o d = decides_same r (admitted_permitted f o) admitted d
