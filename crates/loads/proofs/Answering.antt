-- The answer for a job's load rows is one, and the loads that are given are bounded and led.
use mathlib.Core.Path.{◌≡◌, refl, sym, ◌∙◌, ap, subst, subst⁻¹}
use mathlib.Core.Logic.{◌⊎◌, inl, inr, ⊎_elim}
use mathlib.Core.List.{List}
use lib.ListN.{length, take}
use lib.Seq.{take_all}
use Prim.Native.Nat.{ℕ, ◌≤◌, ◌<◌}
use native.Mathlib.Decide.{dec_le}
use native.Mathlib.Omega.{arith}
use Rattle.arithmetic.specs.rounding.Least.{Least}
use Rattle.arithmetic.proofs.rounding.Laws.{least_one}
use Rattle.arithmetic.proofs.Cases.{impossible, by_cases}
use Rattle.kinds.specs.declared.Row.{Row}
use Rattle.kinds.specs.ranges.Range.{Ranged}
use Rattle.kinds.proofs.ranges.Ranges.{ranged_unless}
use Rattle.earth.specs.coefficients.Coefficients.{Coefficient}
use Rattle.earth.specs.steps.LowCoefficient.{LowCoefficient}
use Rattle.sets.specs.declared.Loads.{Loads}
use Rattle.sets.specs.Sets.{row}
use Rattle.sets.specs.Bounded.{Bounded}
use Rattle.sets.specs.Led.{Led}
use Rattle.loads.proofs.forces.Sizes.{exerts_bounded}
use Rattle.loads.specs.forces.Blank.{BlankThere}
use Rattle.loads.specs.forces.Wetted.{UpperBelowLower}
use Rattle.loads.specs.forces.Laden.{LengthNotAbove, SoilTypeE}
use Rattle.loads.specs.LoadRows.{Every, optionals, AllNamed, AreLoads}
use Rattle.loads.proofs.FirstRows.{every_at, every_map, none_some, some_row, laid_at}
use Rattle.loads.proofs.InRange.{all_ranged}
use Rattle.loads.proofs.Naming.{all_named, loads_led}
use Rattle.loads.proofs.Refusing.{Where}
use Rattle.loads.proofs.Loaded.{loads_one, loads_few}
use Rattle.std.proofs.Common.{min, None, Some, Result, Ok, Err}
use Rattle.std.proofs.lemmas.Bool.{cases_lt}
use Rattle.kinds.specs.declared.refusals.JobRefusal.{JobRefusal}
use Rattle.kinds.specs.refusals.Refusals.{refusal_number}
use Rattle.kinds.proofs.Numbered.{refusal_one}
use Rattle.loads.specs.Answer.{LoadsTold, refused, given, loads_told, RowsWhen, out_of_range, blank, too_many, upper_below_lower, no_train, not_above, type_e, LoadsSays, refuses, loaded, LoadsAnswered}
use Rattle.loads.specs.steps.Exerted as rows
use Rattle.loads.specs.steps.Asking.{row_count, Lowest, unshown, least, ShownBy}

-- ---- what the rows show: what one shows by itself, 16 where too many are optional, and 18 where a row named is no LL row
abbrev pub Shown : (ℕ → ℕ → Coefficient) → List Row → ℕ → Type 0
Shown fill rs n = (ShownBy fill rs n ⊎ Where (12 < optionals rs) 16 n) ⊎ Where (AllNamed rs → ⊥) 18 n

module _ (fill : ℕ → ℕ → Coefficient) (rs : List Row) where
  -- what is asked of every row is asked of this one
  row_shows : {r : Row} {n : ℕ} → rows.RowWhen fill r n → ((P : Row → Type 0) → Every P rs → P r) → RowsWhen fill rs n
  row_shows (rows.out_of_range h) one = out_of_range (λ all. h (one (λ row. Ranged row.kind row.numbers) all))
  row_shows (rows.blank b) one = blank (λ all. one (λ row. BlankThere fill row → ⊥) all b)
  row_shows (rows.upper_below_lower u) one = upper_below_lower (λ all. one (λ row. UpperBelowLower row → ⊥) all u)
  row_shows (rows.not_above a) one = not_above (λ all. one (λ row. LengthNotAbove row → ⊥) all a)
  row_shows (rows.type_e s) one = type_e (λ all. one (λ row. SoilTypeE row → ⊥) all s)

  shown_given : (n : ℕ) → Shown fill rs n → RowsWhen fill rs n
  shown_given n (inl (inl s)) = some_row (λ row. rows.RowWhen fill row n) rs s (λ r w one. row_shows w one)
  shown_given n (inl (inr w)) = subst⁻¹ (RowsWhen fill rs) w.0 (too_many w.1)
  shown_given n (inr w) = subst⁻¹ (RowsWhen fill rs) w.0 (no_train w.1)

  -- a number that is not shown is not given
  hidden : (n : ℕ) → (Shown fill rs n → ⊥) → Every (λ row. rows.RowWhen fill row n → ⊥) rs
  hidden n h = none_some (λ row. rows.RowWhen fill row n) rs (λ s. h (inl (inl s)))

  not_given : {n : ℕ} → (Shown fill rs n → ⊥) → RowsWhen fill rs n → ⊥
  not_given clear (out_of_range h) = h (every_map (λ row. rows.RowWhen fill row 11 → ⊥) (λ row. Ranged row.kind row.numbers) (λ row no. ranged_unless row.kind row.numbers (λ u. no (rows.out_of_range u))) rs (hidden 11 clear))
  not_given clear (blank h) = h (every_map (λ row. rows.RowWhen fill row 15 → ⊥) (λ row. BlankThere fill row → ⊥) (λ row no b. no (rows.blank b)) rs (hidden 15 clear))
  not_given clear (too_many h) = clear (inl (inr (refl, h)))
  not_given clear (upper_below_lower h) = h (every_map (λ row. rows.RowWhen fill row 17 → ⊥) (λ row. UpperBelowLower row → ⊥) (λ row no u. no (rows.upper_below_lower u)) rs (hidden 17 clear))
  not_given clear (no_train h) = clear (inr (refl, h))
  not_given clear (not_above h) = h (every_map (λ row. rows.RowWhen fill row 19 → ⊥) (λ row. LengthNotAbove row → ⊥) (λ row no a. no (rows.not_above a)) rs (hidden 19 clear))
  not_given clear (type_e h) = h (every_map (λ row. rows.RowWhen fill row 20 → ⊥) (λ row. SoilTypeE row → ⊥) (λ row no s. no (rows.type_e s)) rs (hidden 20 clear))

  pub first_refused : (refusal : JobRefusal) → Lowest (Shown fill rs) (Some refusal) → Least (RowsWhen fill rs) (refusal_number refusal)
  first_refused refusal (least lowest) =
      let number = refusal_number refusal in
      record {
        holds = shown_given number lowest.holds;
        least = λ n h. by_cases (dec_le number n) (λ k. k) (λ k. absurd (not_given (λ s. let l = lowest.least n s in omega arith) h));
      }

  pub none_refused : Lowest (Shown fill rs) None → (n : ℕ) → RowsWhen fill rs n → ⊥
  none_refused (unshown lowest) n h = not_given (lowest n) h

-- ---- the rows are told one answer
module _ (fill : ℕ → ℕ → Coefficient) (rs : List Row) where
  pub loads_says_one : {t u : LoadsTold} → LoadsSays fill rs t → LoadsSays fill rs u → t ≡ u
  loads_says_one (refuses p) (refuses q) = ap refused (least_one p q)
  loads_says_one (refuses p) (loaded n l) = absurd (n _ p.holds)
  loads_says_one (loaded n l) (refuses p) = absurd (n _ p.holds)
  loads_says_one (loaded n l) (loaded m k) = ap given (loads_one fill rs _ _ l k)

-- ---- of 16 rows the first `count` are looked at
pub first_rows : (rs : List Row) (count : ℕ) → length rs ≡ 16 → take (row_count count) rs ≡ take count rs
unfolding row_count
first_rows rs count whole = ⊎_elim past within (cases_lt 16 count)
  where
    past : 16 < count → take (min count 16) rs ≡ take count rs
    past h = let e : min count 16 ≡ 16 = omega arith in rw e (take_all 16 rs (omega arith) ∙ sym (take_all count rs (omega arith)))

    within : count ≤ 16 → take (min count 16) rs ≡ take count rs
    within h = let e : min count 16 ≡ count = omega arith in rw e refl

-- ---- no second answer meets the promise of `loads_of`
same_number : {m n : ℕ} → refused m ≡ refused n → m ≡ n
same_number e = cc

back : (a b : Result Loads JobRefusal) → loads_told a ≡ loads_told b → a ≡ b
back (Err j) (Err k) e = ap Err (refusal_one j k (same_number e))
back (Err j) (Ok m) e = impossible cc
back (Ok l) (Err k) e = impossible cc
back (Ok l) (Ok m) e = cc

pub loads_of_one : (fill : ℕ → ℕ → Coefficient) (rs : List Row) (count : ℕ) (a b : Result Loads JobRefusal) → LoadsAnswered fill rs count a → LoadsAnswered fill rs count b → a ≡ b
loads_of_one fill rs count a b p q = back a b (loads_says_one fill (take count rs) p q)

-- ---- the loads that are given are bounded, whatever coefficients up to 40,000 are held
pub given_loads : (fill : ℕ → ℕ → Coefficient) (rs : List Row) (loads : Loads) → LoadsSays fill rs (given loads) → ((n : ℕ) → RowsWhen fill rs n → ⊥) × AreLoads fill rs loads
given_loads fill rs loads (loaded n l) = (n, l)

pub given_bounded : (fill : ℕ → ℕ → Coefficient) → ((soil slope : ℕ) → LowCoefficient (fill soil slope)) → (rs : List Row) (count : ℕ) (loads : Loads) → LoadsAnswered fill rs count (Ok loads)
    → Bounded loads
unfolding row
given_bounded fill small rs count loads a =
    let w = given_loads fill (take count rs) loads a in
    let ranged = all_ranged (take count rs) (λ n. w.0 11 (out_of_range n)) in
    record {
      count = loads_few fill (take count rs) loads w.1;
      each =
          λ i h.
          let here = subst (λ (m : ℕ). i < m) w.1.count h in
          let in_range = every_at (λ row. Ranged row.kind row.numbers) (take count rs) ranged i here in
          exerts_bounded fill small _ _ in_range (laid_at fill (take count rs) loads.loads w.1.laid i here);
    }

-- ---- and what is named in them is a train
pub given_led : (fill : ℕ → ℕ → Coefficient) (rs : List Row) (count : ℕ) (loads : Loads) → LoadsAnswered fill rs count (Ok loads) → Led loads
given_led fill rs count loads a =
    let w = given_loads fill (take count rs) loads a in
    loads_led fill (take count rs) loads w.1 (all_named (take count rs) (λ n. w.0 18 (no_train n)))
