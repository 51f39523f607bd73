-- The refusals of a job in their order, from what its load rows and its river rows are told.
use Prim.Native.Nat.{ℕ, ◌+◌, ◌≤◌, ◌<◌}
use native.Mathlib.Decide.{dec_le}
use native.Mathlib.Omega.{arith}
use mathlib.Core.Path.{◌≡◌, refl, sym, ap, subst}
use mathlib.Core.Bool.{Bool, true, false, cond}
use mathlib.Core.List.{List}
use borrow.Author.Tests.{ltb-true, ltb-false}
use lib.Dec.{lit≤, ltb}
use Rattle.arithmetic.specs.rounding.Least.{Least}
use Rattle.arithmetic.proofs.Cases.{impossible, unlike, by_cases}
use Rattle.kinds.specs.ranges.Range.{Ranged}
use Rattle.kinds.specs.declared.Kind.TheVariants.{B}
use Rattle.kinds.specs.declared.Numbers.{Numbers}
use Rattle.kinds.specs.declared.Row.{Row}
use Rattle.jobs.specs.declared.Job.{Job}
use Rattle.earth.specs.coefficients.Coefficients.{Coefficient}
use Rattle.checks.specs.Sized.{Sized}
use Rattle.loads.specs.forces.Blank.{BlankThere}
use Rattle.loads.specs.forces.Wetted.{UpperBelowLower}
use Rattle.loads.specs.forces.Laden.{LengthNotAbove, SoilTypeE}
use Rattle.loads.specs.LoadRows.{AllRanged, NoneBlank, AllUpright, AllNamed, AllAbove, NoTypeE, optionals}
use Rattle.loads.specs.Answer as loads
use Rattle.loads.specs.Answer.{LoadsAnswered}
use Rattle.std.proofs.Common.{Result, Ok, Err}
use Rattle.kinds.specs.declared.refusals.JobRefusal.{JobRefusal}
use Rattle.kinds.specs.refusals.Refusals.{refusal_number}
use Rattle.sets.specs.declared.Loads.{Loads}
use Rattle.answer.specs.river.steps.Rows.{both}
use Rattle.loads.proofs.InRange.{all_ranged, every_unless}
use Rattle.loads.proofs.Naming.{all_named}
use Rattle.scour.proofs.Scours.{scour_rule_one}
use Rattle.answer.specs.river.River.{DepthIs, ClearIs}
use Rattle.answer.specs.river.steps.Says.{LargeCatchment, TooIntense, OverObstructed, RiverRanged, RiverSays, large, intense, obstructed, shown}
use Rattle.answer.specs.river.steps.Says as says
use Rattle.answer.specs.Rules as rules
use Rattle.answer.specs.Rules.{load_rows_of, AllInRange, When, Refuses}
use Rattle.lines.specs.declared.Answer.{Answer}
use Rattle.lines.specs.declared.RiverLine.{RiverLine}
use Rattle.checks.specs.declared.Base.{Base}
use Rattle.answer.specs.Columns.{base_of}
use Rattle.answer.specs.Answer.{LinesGiven}
use Rattle.answer.specs.steps.Whole.{WholeIs}

-- what is asked only of the numbers before n is not asked of n or of a later one
late : {A : Type 0} {k n : ℕ} → n ≤ k → k < n → A
late h l = absurd (omega arith)

-- ---- what the river rows and the load rows let pass: the conditions of the numbers before n do not hold
record RiverClear (job : Job) (n : ℕ) : Type 0 where
  ranged : 11 < n → RiverRanged job
  catchment : 12 < n → LargeCatchment job → ⊥
  intensity : 13 < n → TooIntense job → ⊥
  obstruction : 14 < n → OverObstructed job → ⊥

record LoadsClear (fill : ℕ → ℕ → Coefficient) (rows : List Row) (n : ℕ) : Type 0 where
  ranged : 11 < n → AllRanged rows
  filled : 15 < n → NoneBlank fill rows
  few : 16 < n → optionals rows ≤ 12
  upright : 17 < n → AllUpright rows
  named : 18 < n → AllNamed rows
  above : 19 < n → AllAbove rows
  bearing : 20 < n → NoTypeE rows

river_before : {job : Job} {m n : ℕ} → n ≤ m → RiverClear job m → RiverClear job n
river_before l c = record {
  ranged = λ h. c.ranged (omega arith);
  catchment = λ h. c.catchment (omega arith);
  intensity = λ h. c.intensity (omega arith);
  obstruction = λ h. c.obstruction (omega arith);
}

-- an S row gives one thing, so not both 12 and 13
river_refused : {job : Job} {r : JobRefusal} → RiverSays job (Err r) → RiverClear job (refusal_number r)
river_refused (says.out_of_range h) = record { ranged = late (lit≤ tt); catchment = late (lit≤ tt); intensity = late (lit≤ tt); obstruction = late (lit≤ tt) }
river_refused (large r c) = record { ranged = λ _. r; catchment = late (lit≤ tt); intensity = late (lit≤ tt); obstruction = late (lit≤ tt) }
river_refused (intense r i) = record {
  ranged = λ _. r;
  catchment = λ _ l. let e = scour_rule_one l.rule i.rule in unlike 12 13 refl cc;
  intensity = late (lit≤ tt);
  obstruction = late (lit≤ tt);
}
river_refused (obstructed r q o) = record { ranged = λ _. r; catchment = λ _. q.catchment; intensity = λ _. q.intensity; obstruction = late (lit≤ tt) }

river_shown : {job : Job} {d c : RiverLine} → RiverSays job (Ok (d, c)) → (n : ℕ) → RiverClear job n
river_shown (shown r q o x y) n = record { ranged = λ _. r; catchment = λ _. q.catchment; intensity = λ _. q.intensity; obstruction = λ _. o }

-- where no number before n is given, the conditions of these do not hold
loads_clear : {fill : ℕ → ℕ → Coefficient} {rows : List Row} {n : ℕ} → ((k : ℕ) → k < n → loads.RowsWhen fill rows k → ⊥) → LoadsClear fill rows n
loads_clear {fill} {rows} {n} none = record {
  ranged = λ h. all_ranged rows (λ x. none 11 h (loads.out_of_range x));
  filled = λ h. every_unless (BlankThere fill) rows (λ x. none 15 h (loads.blank x));
  few = λ h. by_cases (dec_le (optionals rows) 12) (λ k. k) (λ k. absurd (none 16 h (loads.too_many (omega arith))));
  upright = λ h. every_unless UpperBelowLower rows (λ x. none 17 h (loads.upper_below_lower x));
  named = λ h. all_named rows (λ x. none 18 h (loads.no_train x));
  above = λ h. every_unless LengthNotAbove rows (λ x. none 19 h (loads.not_above x));
  bearing = λ h. every_unless SoilTypeE rows (λ x. none 20 h (loads.type_e x));
}

module _ (fill : ℕ → ℕ → Coefficient) (job : Job) (base : Ranged B job.base) where
  abbrev rows : List Row
  rows = load_rows_of job

  -- no number before n is given
  not_before : {n : ℕ} → RiverClear job n → LoadsClear fill rows n → (m : ℕ) → When fill job m → m < n → ⊥
  not_before c l m (rules.out_of_range x) h = x (record { rows = record { base = base; scour = (c.ranged h).scour; clearance = (c.ranged h).clearance }; loads = l.ranged h })
  not_before c l m (rules.large_catchment x) h = c.catchment h x
  not_before c l m (rules.too_intense x) h = c.intensity h x
  not_before c l m (rules.over_obstructed x) h = c.obstruction h x
  not_before c l m (rules.blank x) h = x (l.filled h)
  not_before c l m (rules.too_many x) h = let k = l.few h in omega arith
  not_before c l m (rules.upper_below_lower x) h = x (l.upright h)
  not_before c l m (rules.no_train x) h = x (l.named h)
  not_before c l m (rules.not_above x) h = x (l.above h)
  not_before c l m (rules.type_e x) h = x (l.bearing h)

  least : {n : ℕ} → When fill job n → RiverClear job n → LoadsClear fill rows n → Refuses fill job n
  least {n} w c l = record { holds = w; least = λ m x. by_cases (dec_le n m) (λ k. k) (λ k. absurd (not_before c l m x (omega arith))) }

  -- what the rows show is given of the job
  river_when : {r : JobRefusal} → RiverSays job (Err r) → When fill job (refusal_number r)
  river_when (says.out_of_range h) = rules.out_of_range (λ a. h (record { scour = a.rows.scour; clearance = a.rows.clearance }))
  river_when (large r c) = rules.large_catchment c
  river_when (intense r i) = rules.too_intense i
  river_when (obstructed r q o) = rules.over_obstructed o

  loads_when : {n : ℕ} → loads.RowsWhen fill rows n → When fill job n
  loads_when (loads.out_of_range h) = rules.out_of_range (λ a. h a.loads)
  loads_when (loads.blank h) = rules.blank h
  loads_when (loads.too_many h) = rules.too_many h
  loads_when (loads.upper_below_lower h) = rules.upper_below_lower h
  loads_when (loads.no_train h) = rules.no_train h
  loads_when (loads.not_above h) = rules.not_above h
  loads_when (loads.type_e h) = rules.type_e h

  module _ {n : ℕ} (p : Least (loads.RowsWhen fill rows) n) where
    loads_before : {k : ℕ} → k ≤ n → LoadsClear fill rows k
    loads_before l = loads_clear (λ k h w. let low = p.least k w in omega arith)

    -- the lower of two refusals is told
    lower : {m : JobRefusal} → RiverSays job (Err m) → (t : Bool) → ltb (refusal_number m) n ≡ t → Refuses fill job (cond t (refusal_number m) n)
    lower {m} s true e = let l = ltb-true (refusal_number m) n e in least (river_when s) (river_refused s) (loads_before (omega arith))
    lower {m} s false e = let l = ltb-false (refusal_number m) n e in least (loads_when p.holds) (river_before l (river_refused s)) (loads_before (omega arith))

    alone : {d c : RiverLine} → RiverSays job (Ok (d, c)) → Refuses fill job n
    alone s = least (loads_when p.holds) (river_shown s n) (loads_before (omega arith))

  -- where the load rows are given, what the river says is told
  module _ (none : (n : ℕ) → loads.RowsWhen fill rows n → ⊥) where
    all_clear : (n : ℕ) → LoadsClear fill rows n
    all_clear n = loads_clear (λ k h. none k)

    river_alone : {m : JobRefusal} → RiverSays job (Err m) → Refuses fill job (refusal_number m)
    river_alone s = least (river_when s) (river_refused s) (all_clear _)

    unrefused : {d c : RiverLine} → RiverSays job (Ok (d, c)) → (m : ℕ) → When fill job m → ⊥
    unrefused s m w = not_before (river_shown s (m + 1)) (all_clear (m + 1)) m w (omega arith)

pub refuses_11 : (fill : ℕ → ℕ → Coefficient) (job : Job) → (AllInRange job → ⊥) → Refuses fill job 11
refuses_11 fill job h = record { holds = rules.out_of_range h; least = lowest }
  where
    lowest : (m : ℕ) → When fill job m → 11 ≤ m
    lowest m (rules.out_of_range x) = omega arith
    lowest m (rules.large_catchment x) = omega arith
    lowest m (rules.too_intense x) = omega arith
    lowest m (rules.over_obstructed x) = omega arith
    lowest m (rules.blank x) = omega arith
    lowest m (rules.too_many x) = omega arith
    lowest m (rules.upper_below_lower x) = omega arith
    lowest m (rules.no_train x) = omega arith
    lowest m (rules.not_above x) = omega arith
    lowest m (rules.type_e x) = omega arith

-- ---- what is told, from what the load rows and the river rows are told
same_refusal : {A : Type 0} {m n : JobRefusal} → ◌≡◌ {A = Result A JobRefusal} (Err m) (Err n) → m ≡ n
same_refusal e = cc

same_pair : {A B : Type 0} {x a : A} {y b : B} → ◌≡◌ {A = Result (A × B) JobRefusal} (Ok (x, y)) (Ok (a, b)) → (◌≡◌ {A = Result A JobRefusal} (Ok x) (Ok a)) × (◌≡◌ {A = Result B JobRefusal} (Ok y) (Ok b))
same_pair {A} {B} {x} {a} {y} {b} e =
    let q : ◌≡◌ {A = A × B} (x, y) (a, b) = cc in
    (ap (λ (w : A × B). Ok w.0) q, ap (λ (w : A × B). Ok w.1) q)

pub both_given : {A B : Type 0} (x : Result A JobRefusal) (y : Result B JobRefusal) {a : A} {b : B} → both x y ≡ Ok (a, b) → (x ≡ Ok a) × (y ≡ Ok b)
both_given (Err n) (Err m) e = impossible cc
both_given (Err n) (Ok b) e = impossible cc
both_given (Ok a) (Err m) e = impossible cc
both_given (Ok x) (Ok y) e = same_pair e

module _ (fill : ℕ → ℕ → Coefficient) (job : Job) (base : Ranged B job.base) where
  pub both_refuses : (t : Result Loads JobRefusal) (x : Result (RiverLine × RiverLine) JobRefusal) {r : JobRefusal} → LoadsAnswered fill job.loads job.count t → RiverSays job x → both t x ≡ Err r
      → Refuses fill job (refusal_number r)
  both_refuses (Err n) (Err m) {r} (loads.refuses p) s e =
      subst (λ (k : JobRefusal). Refuses fill job (refusal_number k)) (same_refusal e) (either (ltb (refusal_number m) (refusal_number n)) refl)
    where
      either : (t : Bool) → ltb (refusal_number m) (refusal_number n) ≡ t → Refuses fill job (refusal_number (cond t m n))
      either true q = lower fill job base p s true q
      either false q = lower fill job base p s false q
  both_refuses (Err n) (Ok y) (loads.refuses p) s e = subst (λ (k : JobRefusal). Refuses fill job (refusal_number k)) (same_refusal e) (alone fill job base p s)
  both_refuses (Ok l) (Err m) (loads.loaded none are) s e = subst (λ (k : JobRefusal). Refuses fill job (refusal_number k)) (same_refusal e) (river_alone fill job base none s)
  both_refuses (Ok l) (Ok y) w s e = impossible cc

  lines_shown : {d c : RiverLine} → RiverSays job (Ok (d, c)) → DepthIs job d × ClearIs job c
  lines_shown (shown r q o x y) = (x, y)

  pub given_answer : (loads : Loads) {d c : RiverLine} {width : Base} {a : Answer} → LoadsAnswered fill job.loads job.count (Ok loads) → RiverSays job (Ok (d, c)) → width ≡ base_of job.base
      → WholeIs width loads d c a → LinesGiven fill job a
  given_answer given {d} {c} {a = a} (loads.loaded none are) s e w =
      let v = subst (λ (x : Base). WholeIs x given d c a) e w in
      record {
        unrefused = unrefused fill job base none s;
        loads = given;
        are = are;
        one = v.one;
        two = v.two;
        three = v.three;
        four = v.four;
        depth = subst (DepthIs job) (sym v.depth) (lines_shown s).0;
        clear = subst (ClearIs job) (sym v.clear) (lines_shown s).1;
        verdict = v.verdict;
      }

-- a base in range fits the checks
pub sized : (n : Numbers) → Ranged B n → Sized (base_of n)
sized n r =
    let a = r.n1.from in
    let b = r.n2.from in
    record { wide = omega arith; width = r.n1.to; long = omega arith; length = r.n2.to; allowable = r.n3.to; friction = r.n4.to }
