-- The eighth field of a check's line that names a set, by tests that are computed: of the loads, of the figure, and of whether anything was rounded away.
use mathlib.Core.Path.{◌≡◌, refl, sym, ◌∙◌, ap}
use mathlib.Core.Bool.{Bool, true, false}
use mathlib.Core.List.{List, [], ◌∷◌}
use mathlib.Core.Logic.{inl, inr, ⊎_elim}
use Prim.Native.Nat.{ℕ, zero, suc, ◌+◌, ◌*◌, ◌-◌, ◌≤◌, ◌<◌}
use native.Mathlib.Nat.{not-le_of_lt, lt_of_not-le, zero-lt-suc}
use native.Mathlib.Omega.{arith}
use lib.Dec.{T, leb, ltb, eqb, leb→le, ltb→lt, eqb→eq}
use lib.IntN.{nat_abs, ◌*ℤ◌}
use lib.ListN.{length}
use Rattle.arithmetic.specs.decides.Decides.{Decides}
use Rattle.arithmetic.specs.rounding.Least.{RoundedUp, RoundedDown}
use Rattle.arithmetic.specs.rounding.Rounding.{Exactly}
use Rattle.arithmetic.specs.signed.Whole.{amount, above}
use Rattle.arithmetic.proofs.Deciding.{decides_same, decides_equal, decides_at_most}
use Rattle.arithmetic.proofs.rounding.Compute.{is_up, up_test, is_down, down_test}
use Rattle.arithmetic.proofs.rounding.Tables.{both, both_first, both_second}
use Rattle.kinds.specs.declared.Row.{Row}
use Rattle.kinds.specs.declared.classes.Source.{Source}
use Rattle.kinds.specs.declared.classes.Source.TheVariants.{Absent, Earth, Current, Surcharge, Own}
use Rattle.kinds.specs.classes.Classes.{class_of, source}
use Rattle.kinds.specs.Table.{phase, train}
use Rattle.kinds.specs.ranges.Range.{value}
use Rattle.earth.specs.table2.Table2.{table2_fill}
use Rattle.sets.specs.declared.Load.{Load}
use Rattle.sets.specs.declared.Loads.{Loads}
use Rattle.sets.specs.Sets.{blank_load}
use Rattle.sums.specs.Totals.{N, H, M, plus, minus, resisting, overturning}
use Rattle.checks.specs.declared.Base.{Base}
use Rattle.checks.specs.declared.Check.{Check}
use Rattle.checks.specs.declared.Check.TheVariants.{OP, OM, SL, PR, RK}
use Rattle.checks.specs.declared.Figure.{Figure}
use Rattle.checks.specs.declared.Figure.TheVariants.{Nothing, Number, Off}
use Rattle.checks.specs.ranks.Figures.{TipsBy, SlidesBy, PressesBy, LeansBy}
use Rattle.checks.specs.set_figures.Figures.{Shows, ShowsExactly}
use Rattle.loads.specs.forces.Exerts.{Forces}
use Rattle.loads.specs.LoadRows.{Laid, AreLoads}
use Rattle.lines.specs.Lines.{ExactOrRounded, unsaid, E, R, figure_exactness}
use Rattle.figures.specs.Figures.{WorkedFigure, eighth, four_by_eight, AllHold, more}

-- ---- the loads of rows of their own forces
abbrev is_own : Source → Bool
is_own Absent = false
is_own Earth = false
is_own Current = false
is_own Surcharge = false
is_own Own = true

abbrev as_written : Row → Load
as_written row =
    record {
      class = class_of row.kind;
      phase = phase row.kind row.numbers;
      train = train row.kind row.numbers;
      v = amount (value row.numbers.n1);
      x = amount (value row.numbers.n2);
      h = amount (value row.numbers.n3);
      twist = amount (value row.numbers.n3 *ℤ value row.numbers.n4);
    }

own_forces : (s : Source) (row : Row) → T (is_own s) → Forces table2_fill s row.numbers (as_written row)
unfolding Forces
own_forces Absent row t = absurd t
own_forces Earth row t = absurd t
own_forces Current row t = absurd t
own_forces Surcharge row t = absurd t
own_forces Own row t = record { v = refl; x = refl; h = refl; twist = refl }

-- in so many places
abbrev in_places : ℕ → List Row → List Load
in_places zero rows = []
in_places (suc n) [] = blank_load ∷ in_places n []
in_places (suc n) (row ∷ rows) = as_written row ∷ in_places n rows

abbrev are_own : ℕ → List Row → Bool
are_own n [] = true
are_own zero (row ∷ rows) = false
are_own (suc n) (row ∷ rows) = both (is_own (source row.kind)) (are_own n rows)

laid : (n : ℕ) (rows : List Row) → T (are_own n rows) → Laid table2_fill rows (in_places n rows)
unfolding Laid
laid zero [] t = tt
laid zero (row ∷ rows) t = absurd t
laid (suc n) [] t = (refl, laid n [] tt)
laid (suc n) (row ∷ rows) t =
    let own = is_own (source row.kind) in (
      record { class = refl; phase = refl; train = refl; forces = own_forces (source row.kind) row (both_first own (are_own n rows) t) },
      laid n rows (both_second own (are_own n rows) t),
    )

all_places : (n : ℕ) (rows : List Row) → length (in_places n rows) ≡ n
all_places zero rows = refl
all_places (suc n) [] = ap suc (all_places n [])
all_places (suc n) (row ∷ rows) = ap suc (all_places n rows)

abbrev pub loads_of : List Row → Loads
loads_of rows = record { count = length rows; loads = in_places 16 rows }

pub are_loads : (rows : List Row) → T (are_own 16 rows) → AreLoads table2_fill rows (loads_of rows)
are_loads rows t = record { count = refl; places = all_places 16 rows; laid = laid 16 rows t }

-- ---- the figure, and whether it is exact
module _ (r o : ℕ) where
  abbrev is_tipping : Figure → Bool
  is_tipping Nothing = eqb o 0
  is_tipping (Number v) = both (ltb 0 o) (is_down (100 * r) o v)
  is_tipping Off = false

  abbrev tips_exact : Figure → Bool
  tips_exact Nothing = true
  tips_exact (Number v) = eqb (v * o) (100 * r)
  tips_exact Off = true

  tipping : (v : Figure) → T (is_tipping v) → TipsBy RoundedDown r o v
  tipping Nothing t = eqb→eq o 0 t
  tipping (Number v) t =
      let down = is_down (100 * r) o v in
      (ltb→lt 0 o (both_first (ltb 0 o) down t), down_test (100 * r) o v (both_second (ltb 0 o) down t))
  tipping Off t = absurd t

  tips_told : (v : Figure) → TipsBy RoundedDown r o v → Decides (tips_exact v) (TipsBy Exactly r o v)
  tips_told Nothing s = s
  tips_told (Number v) s = decides_same (eqb (v * o) (100 * r)) (λ e. (s.0, e)) (λ w. w.1) (decides_equal (v * o) (100 * r))
  tips_told Off s = absurd s

module _ (f h : ℕ) where
  abbrev is_sliding : ℕ → Figure → Bool
  is_sliding n Nothing = both (ltb 0 n) (eqb h 0)
  is_sliding zero (Number v) = eqb v 0
  is_sliding (suc n) (Number v) = both (ltb 0 h) (is_down (f * suc n) (10 * h) v)
  is_sliding n Off = false

  abbrev slides_exact : ℕ → Figure → Bool
  slides_exact n Nothing = true
  slides_exact zero (Number v) = true
  slides_exact (suc n) (Number v) = eqb (v * (10 * h)) (f * suc n)
  slides_exact n Off = true

  sliding : (n : ℕ) (v : Figure) → T (is_sliding n v) → SlidesBy RoundedDown f n h v
  sliding n Nothing t = (ltb→lt 0 n (both_first (ltb 0 n) (eqb h 0) t), eqb→eq h 0 (both_second (ltb 0 n) (eqb h 0) t))
  sliding zero (Number v) t = inl (refl, eqb→eq v 0 t)
  sliding (suc n) (Number v) t =
      let down = is_down (f * suc n) (10 * h) v in
      inr (zero-lt-suc n, ltb→lt 0 h (both_first (ltb 0 h) down t), down_test (f * suc n) (10 * h) v (both_second (ltb 0 h) down t))
  sliding n Off t = absurd t

  slides_told : (n : ℕ) (v : Figure) → SlidesBy RoundedDown f n h v → Decides (slides_exact n v) (SlidesBy Exactly f n h v)
  slides_told n Nothing s = s
  slides_told zero (Number v) s = ⊎_elim (λ w. inl w) (λ w. absurd (omega (arith, w.0))) s
  slides_told (suc n) (Number v) s =
      decides_same (eqb (v * (10 * h)) (f * suc n)) (λ e. ⊎_elim (λ w. absurd (omega (arith, w.0))) (λ w. inr (w.0, w.1, e)) s)
      (λ w. ⊎_elim (λ x. absurd (omega (arith, x.0))) (λ x. x.2) w)
      (decides_equal (v * (10 * h)) (f * suc n))
  slides_told n Off s = absurd s

module _ (b l n m : ℕ) where
  -- by the rule for the whole base, or for a part of it
  abbrev is_pressure : Bool → ℕ → Bool
  is_pressure true v = is_up (1000000 * (n * b + 3 * m)) (b * b * l) v
  is_pressure false v = is_up (4000000 * (n * n)) (3 * l * (n * b - m)) v

  abbrev pressure_exact : Bool → ℕ → Bool
  pressure_exact true v = eqb (v * (b * b * l)) (1000000 * (n * b + 3 * m))
  pressure_exact false v = eqb (v * (3 * l * (n * b - m))) (4000000 * (n * n))

  abbrev is_pressing : Figure → Bool
  is_pressing Nothing = false
  is_pressing (Number v) = both (ltb 0 n) (both (ltb m (n * b)) (is_pressure (leb (3 * m) (n * b)) v))
  is_pressing Off = leb (n * b) m

  abbrev presses_exact : Figure → Bool
  presses_exact Nothing = true
  presses_exact (Number v) = pressure_exact (leb (3 * m) (n * b)) v
  presses_exact Off = true

  by_rule : (whole : Bool) (v : ℕ) → Decides whole (3 * m ≤ n * b) → 0 < n → m < n * b → T (is_pressure whole v) → PressesBy RoundedUp b l n m (Number v)
  by_rule true v d p q t = (p, q, (λ h. up_test (1000000 * (n * b + 3 * m)) (b * b * l) v t), λ h. absurd (not-le_of_lt h d))
  by_rule false v d p q t = (p, q, (λ h. absurd (d h)), λ h. up_test (4000000 * (n * n)) (3 * l * (n * b - m)) v t)

  rule_told : (whole : Bool) (v : ℕ) → Decides whole (3 * m ≤ n * b) → 0 < n → m < n * b → Decides (pressure_exact whole v) (PressesBy Exactly b l n m (Number v))
  rule_told true v d p q =
      decides_same (eqb (v * (b * b * l)) (1000000 * (n * b + 3 * m))) (λ e. (p, q, (λ h. e), λ h. absurd (not-le_of_lt h d))) (λ w. w.2 d)
      (decides_equal (v * (b * b * l)) (1000000 * (n * b + 3 * m)))
  rule_told false v d p q =
      decides_same (eqb (v * (3 * l * (n * b - m))) (4000000 * (n * n))) (λ e. (p, q, (λ h. absurd (d h)), λ h. e)) (λ w. w.3 (lt_of_not-le d))
      (decides_equal (v * (3 * l * (n * b - m))) (4000000 * (n * n)))

  pressing : (v : Figure) → T (is_pressing v) → PressesBy RoundedUp b l n m v
  pressing Nothing t = absurd t
  pressing (Number v) t =
      let rule = is_pressure (leb (3 * m) (n * b)) v in
      let rest = both_second (ltb 0 n) (both (ltb m (n * b)) rule) t in
      by_rule (leb (3 * m) (n * b)) v (decides_at_most (3 * m) (n * b)) (ltb→lt 0 n (both_first (ltb 0 n) (both (ltb m (n * b)) rule) t))
      (ltb→lt m (n * b) (both_first (ltb m (n * b)) rule rest)) (both_second (ltb m (n * b)) rule rest)
  pressing Off t = inr (leb→le (n * b) m t)

  presses_told : (v : Figure) → PressesBy RoundedUp b l n m v → Decides (presses_exact v) (PressesBy Exactly b l n m v)
  presses_told Nothing s = absurd s
  presses_told (Number v) s = rule_told (leb (3 * m) (n * b)) v (decides_at_most (3 * m) (n * b)) s.0 s.1
  presses_told Off s = s

  abbrev is_leaning : Figure → Bool
  is_leaning Nothing = false
  is_leaning (Number v) = both (ltb 0 n) (is_up (1000 * m) (2 * (n * b)) v)
  is_leaning Off = eqb n 0

  abbrev leans_exact : Figure → Bool
  leans_exact Nothing = true
  leans_exact (Number v) = eqb (v * (2 * (n * b))) (1000 * m)
  leans_exact Off = true

  leaning : (v : Figure) → T (is_leaning v) → LeansBy RoundedUp b n m v
  leaning Nothing t = absurd t
  leaning (Number v) t =
      let up = is_up (1000 * m) (2 * (n * b)) v in
      (ltb→lt 0 n (both_first (ltb 0 n) up t), up_test (1000 * m) (2 * (n * b)) v (both_second (ltb 0 n) up t))
  leaning Off t = eqb→eq n 0 t

  leans_told : (v : Figure) → LeansBy RoundedUp b n m v → Decides (leans_exact v) (LeansBy Exactly b n m v)
  leans_told Nothing s = absurd s
  leans_told (Number v) s = decides_same (eqb (v * (2 * (n * b))) (1000 * m)) (λ e. (s.0, e)) (λ w. w.1) (decides_equal (v * (2 * (n * b))) (1000 * m))
  leans_told Off s = s

-- of each check
module _ (base : Base) (loads : Loads) (set : ℕ) where
  abbrev pub is_shown : Check → Figure → Bool
  is_shown OP v = is_tipping (resisting plus base.width loads set) (overturning plus base.width loads set) v
  is_shown OM v = is_tipping (resisting minus base.width loads set) (overturning minus base.width loads set) v
  is_shown SL v = is_sliding base.friction (nat_abs (H loads set)) (above (N loads set)) v
  is_shown PR v = is_pressing base.width base.length (above (N loads set)) (nat_abs (M loads set)) v
  is_shown RK v = is_leaning base.width base.length (above (N loads set)) (nat_abs (M loads set)) v

  abbrev pub is_exact : Check → Figure → Bool
  is_exact OP v = tips_exact (resisting plus base.width loads set) (overturning plus base.width loads set) v
  is_exact OM v = tips_exact (resisting minus base.width loads set) (overturning minus base.width loads set) v
  is_exact SL v = slides_exact base.friction (nat_abs (H loads set)) (above (N loads set)) v
  is_exact PR v = presses_exact base.width base.length (above (N loads set)) (nat_abs (M loads set)) v
  is_exact RK v = leans_exact base.width base.length (above (N loads set)) (nat_abs (M loads set)) v

  pub shows_test : (of : Check) (v : Figure) → T (is_shown of v) → Shows of base loads set v
  unfolding Shows
  shows_test OP v t = tipping _ _ v t
  shows_test OM v t = tipping _ _ v t
  shows_test SL v t = sliding _ _ _ v t
  shows_test PR v t = pressing _ _ _ _ v t
  shows_test RK v t = leaning base.width base.length (above (N loads set)) (nat_abs (M loads set)) v t

  pub exact_test : (of : Check) (v : Figure) → Shows of base loads set v → Decides (is_exact of v) (ShowsExactly of base loads set v)
  unfolding Shows ShowsExactly
  exact_test OP v s = tips_told _ _ v s
  exact_test OM v s = tips_told _ _ v s
  exact_test SL v s = slides_told _ _ _ v s
  exact_test PR v s = presses_told _ _ _ _ v s
  exact_test RK v s = leans_told base.width base.length (above (N loads set)) (nat_abs (M loads set)) v s

-- ---- the field, by its place among the three
abbrev place : ExactOrRounded → ℕ
place unsaid = 0
place E = 1
place R = 2

abbrev at_place : ℕ → ExactOrRounded
at_place zero = unsaid
at_place (suc zero) = E
at_place (suc (suc n)) = R

placed : (field : ExactOrRounded) → field ≡ at_place (place field)
placed unsaid = refl
placed E = refl
placed R = refl

field_test : (a b : ExactOrRounded) → T (eqb (place a) (place b)) → a ≡ b
field_test a b t = placed a ∙ ap at_place (eqb→eq (place a) (place b) t) ∙ sym (placed b)

-- the field that the set has
abbrev eighth_field : List Row → Check → ℕ → Figure → ExactOrRounded
eighth_field rows of set figure = figure_exactness figure (is_exact four_by_eight (loads_of rows) set of figure)

-- an eighth field by its tests, before those behind it
module _ {rows : List Row} {of : Check} {set : ℕ} {figure : Figure} {field : ExactOrRounded} {xs : List WorkedFigure} where
  pub eighth_shown : T (are_own 16 rows) → T (is_shown four_by_eight (loads_of rows) set of figure) → T (eqb (place field) (place (eighth_field rows of set figure)))
      → AllHold xs → AllHold (eighth rows of set figure field ∷ xs)
  eighth_shown own t e rest =
      let shows = shows_test four_by_eight (loads_of rows) set of figure t in
      more {x = eighth rows of set figure field}
      (record {
        loads = loads_of rows;
        its_loads = are_loads rows own;
        shows = shows;
        exact = is_exact four_by_eight (loads_of rows) set of figure;
        told = exact_test four_by_eight (loads_of rows) set of figure shows;
        is = field_test field (eighth_field rows of set figure) e;
      })
      rest
