-- The refusals of a job in their order: a number is given exactly where a row shows it, and the lowest that is shown is told.
use mathlib.Core.Path.{◌≡◌, refl, sym, ap, ◌∙◌}
use mathlib.Core.List.{List, [], ◌∷◌}
use Prim.Native.Nat.{ℕ, zero, suc, ◌+◌, ◌-◌, ◌≤◌, ◌<◌}
use native.Mathlib.Decide.{dec_le}
use native.Mathlib.Numerals.{add-one}
use native.Mathlib.Omega.{arith}
use lib.ListN.{length, take, get_or}
use lib.Seq.{take-length}
use Rattle.arithmetic.proofs.Cases.{impossible, by_cases}
use Rattle.kinds.specs.declared.Kind.TheVariants.{S}
use Rattle.kinds.specs.declared.Row.{Row}
use Rattle.kinds.specs.Table.{train}
use Rattle.kinds.specs.classes.Classes.{class_of, source}
use Rattle.kinds.specs.ranges.Range.{Ranged}
use Rattle.kinds.proofs.ranges.Ranges.{ranged_unless}
use Rattle.jobs.specs.declared.Job.{Job}
use Rattle.earth.specs.coefficients.Coefficients.{Coefficient}
use Rattle.loads.specs.LoadRows.{NamesLive, optionals}
use Rattle.loads.specs.forces.Blank.{BlankThere}
use Rattle.loads.specs.forces.Wetted.{UpperBelowLower}
use Rattle.loads.specs.forces.Laden.{LengthNotAbove, SoilTypeE}
use Rattle.loads.proofs.Asking.{optional_low}
use Rattle.loads.proofs.Naming.{named_unless}
use Rattle.answer.specs.Rules.{load_rows_of, AllInRange, When, out_of_range, large_catchment, too_intense, over_obstructed, blank, too_many, upper_below_lower, no_train, not_above, type_e, Refuses, Unrefused}
use Rattle.job_faults.specs.declared.rules.Rule.{Rule}
use Rattle.job_faults.specs.declared.rules.Rule.TheVariants as rules
use Rattle.job_faults.specs.First.{StandsAt, First}
use Rattle.job_faults.specs.JobRows.{row_of, rows_in}
use Rattle.job_faults.specs.Faults.{ShownAt, Lies}
use Rattle.job_faults.specs.rules.Shows.{rule_number}
use Rattle.job_faults.specs.rules.steps.Tests.{PastRange}
use Rattle.job_faults.specs.steps.Found.{Unshown}
use Rattle.job_faults.proofs.Standing.{stands_there, every_stands, stands_every}
use Rattle.job_faults.proofs.Listing.{scour_stands, clearance_stands, rows_every, loads_every, ranged_rows, rows_ranged, optionals_first, optionals_next, rows_optionals}

-- ---- a number is that of one refusal
abbrev in_order : List Rule
in_order = rules.OutOfRange ∷ rules.LargeCatchment ∷ rules.TooIntense ∷ rules.OverObstructed ∷ rules.NoFill ∷ rules.TooManyOptional ∷ rules.UpperBelowLower ∷ rules.NoTrain ∷ rules.NotAbove ∷ rules.TypeE ∷ []

abbrev rule_at : ℕ → Rule
rule_at n = get_or in_order (n - 11) rules.TypeE

-- the place of each in their order is told by its number
pub number_at : (i : ℕ) (d : Rule) → i < 10 → rule_number (get_or in_order i d) ≡ 11 + i
number_at zero d l = refl
number_at (suc zero) d l = refl
number_at (suc (suc zero)) d l = refl
number_at (suc (suc (suc zero))) d l = refl
number_at (suc (suc (suc (suc zero)))) d l = refl
number_at (suc (suc (suc (suc (suc zero))))) d l = refl
number_at (suc (suc (suc (suc (suc (suc zero)))))) d l = refl
number_at (suc (suc (suc (suc (suc (suc (suc zero))))))) d l = refl
number_at (suc (suc (suc (suc (suc (suc (suc (suc zero)))))))) d l = refl
number_at (suc (suc (suc (suc (suc (suc (suc (suc (suc zero))))))))) d l = refl
number_at (suc (suc (suc (suc (suc (suc (suc (suc (suc (suc i)))))))))) d l = absurd (omega (arith, l))

numbered : (rule : Rule) → rule_at (rule_number rule) ≡ rule
numbered rules.OutOfRange = refl
numbered rules.LargeCatchment = refl
numbered rules.TooIntense = refl
numbered rules.OverObstructed = refl
numbered rules.NoFill = refl
numbered rules.TooManyOptional = refl
numbered rules.UpperBelowLower = refl
numbered rules.NoTrain = refl
numbered rules.NotAbove = refl
numbered rules.TypeE = refl

pub number_one : (a b : Rule) → rule_number a ≡ rule_number b → a ≡ b
number_one a b e = sym (numbered a) ∙ ap rule_at e ∙ numbered b

pub number_low : (rule : Rule) → rule_number rule ≤ 20
number_low rules.OutOfRange = omega arith
number_low rules.LargeCatchment = omega arith
number_low rules.TooIntense = omega arith
number_low rules.OverObstructed = omega arith
number_low rules.NoFill = omega arith
number_low rules.TooManyOptional = omega arith
number_low rules.UpperBelowLower = omega arith
number_low rules.NoTrain = omega arith
number_low rules.NotAbove = omega arith
number_low rules.TypeE = omega arith

pub number_from : (rule : Rule) → 11 ≤ rule_number rule
number_from rules.OutOfRange = omega arith
number_from rules.LargeCatchment = omega arith
number_from rules.TooIntense = omega arith
number_from rules.OverObstructed = omega arith
number_from rules.NoFill = omega arith
number_from rules.TooManyOptional = omega arith
number_from rules.UpperBelowLower = omega arith
number_from rules.NoTrain = omega arith
number_from rules.NotAbove = omega arith
number_from rules.TypeE = omega arith

module _ (fill : ℕ → ℕ → Coefficient) (job : Job) where
  abbrev rows : List Row
  rows = rows_in job

  -- ---- past 11 every number is in its range
  pub in_range : Unshown fill job rules.OutOfRange → AllInRange job
  in_range none = rows_ranged job (stands_every _ rows (λ i r s. ranged_unless r.kind r.numbers (none i r s)))

  -- what is asked before one in their order is every number before its own
  pub before_it : (i : ℕ) (d : Rule) → i < 10 → ((r : Rule) → rule_number r < 11 + i → Unshown fill job r) → (r : Rule) → rule_number r < rule_number (get_or in_order i d) → Unshown fill job r
  before_it i d l none r h = none r (omega (arith, h, number_at i d l))

  pub past_range : (rule : Rule) → ((r : Rule) → rule_number r < rule_number rule → Unshown fill job r) → PastRange rule (AllInRange job)
  past_range rule none n =
      let differs : rule_number rule ≡ 11 → ⊥ = λ e. n (number_one rule rules.OutOfRange e) in
      in_range (none rules.OutOfRange (omega (arith, number_from rule)))

  -- ---- what no load row shows no row shows
  one_blank : (i : ℕ) (row : Row) → StandsAt rows i row → BlankThere fill row → When fill job 15
  unfolding BlankThere source
  one_blank i row s x =
      blank (λ all. every_stands (λ r. BlankThere fill r → ⊥) rows (rows_every (λ r. BlankThere fill r → ⊥) job (λ w. let e = w.0 in impossible cc) (λ has w. let e = w.0 in impossible cc) (λ has w. let e = w.0 in impossible cc) all) i s x)

  one_below : (i : ℕ) (row : Row) → StandsAt rows i row → UpperBelowLower row → When fill job 17
  unfolding UpperBelowLower source
  one_below i row s x =
      upper_below_lower (λ all. every_stands (λ r. UpperBelowLower r → ⊥) rows (rows_every (λ r. UpperBelowLower r → ⊥) job (λ w. let e = w.0 in impossible cc) (λ has w. let e = w.0 in impossible cc) (λ has w. let e = w.0 in impossible cc) all) i s x)

  one_unnamed : (i : ℕ) (row : Row) → StandsAt rows i row → (NamesLive (load_rows_of job) (train row.kind row.numbers) → ⊥) → When fill job 18
  unfolding NamesLive
  one_unnamed i row s x =
      no_train (λ all. x (every_stands (λ r. NamesLive (load_rows_of job) (train r.kind r.numbers)) rows (rows_every (λ r. NamesLive (load_rows_of job) (train r.kind r.numbers)) job tt (λ has. tt) (λ has. tt) all) i s))

  one_short : (i : ℕ) (row : Row) → StandsAt rows i row → LengthNotAbove row → When fill job 19
  unfolding LengthNotAbove source
  one_short i row s x =
      not_above (λ all. every_stands (λ r. LengthNotAbove r → ⊥) rows (rows_every (λ r. LengthNotAbove r → ⊥) job (λ w. let e = w.0 in impossible cc) (λ has w. let e = w.0 in impossible cc) (λ has w. let e = w.0 in impossible cc) all) i s x)

  one_type_e : (i : ℕ) (row : Row) → StandsAt rows i row → SoilTypeE row → When fill job 20
  unfolding SoilTypeE source
  one_type_e i row s x =
      type_e (λ all. every_stands (λ r. SoilTypeE r → ⊥) rows (rows_every (λ r. SoilTypeE r → ⊥) job (λ w. let e = w.0 in impossible cc) (λ has w. let e = w.0 in impossible cc) (λ has w. let e = w.0 in impossible cc) all) i s x)

  -- ---- the 13th optional row
  few : Unshown fill job rules.TooManyOptional → (i : ℕ) → i ≤ length rows → optionals (take i rows) ≤ 12
  unfolding optionals
  few none zero h = omega arith
  few none (suc i) h =
      let row = get_or rows i (row_of S job.scour) in
      let s = stands_there rows i (row_of S job.scour) (omega arith) in
      by_cases (dec_le (optionals (take (suc i) rows)) 12) (λ k. k)
      (λ k.
      let more = ap (λ (n : ℕ). optionals (take n rows)) (sym (add-one i)) ∙ optionals_next rows i row s in
      let low = optional_low (class_of row.kind) in
      let before = few none i (omega arith) in
      absurd (none i row s (omega arith, omega arith)))

  -- a number is given where a row shows it
  pub given : (rule : Rule) (i : ℕ) (row : Row) → StandsAt rows i row → ShownAt fill job rule i row → When fill job (rule_number rule)
  given rules.OutOfRange i row s x = out_of_range (λ all. x (every_stands (λ r. Ranged r.kind r.numbers) rows (ranged_rows job all) i s))
  given rules.LargeCatchment i row s x = large_catchment x.1
  given rules.TooIntense i row s x = too_intense x.1
  given rules.OverObstructed i row s x = over_obstructed x.1
  given rules.NoFill i row s x = one_blank i row s x
  given rules.TooManyOptional i row s x = too_many (omega (arith, optionals_next rows i row s, x.0, x.1, optionals_first rows (i + 1), rows_optionals job))
  given rules.UpperBelowLower i row s x = one_below i row s x
  given rules.NoTrain i row s x = one_unnamed i row s x
  given rules.NotAbove i row s x = one_short i row s x
  given rules.TypeE i row s x = one_type_e i row s x

  -- and is not where none does
  pub not_given : (m : ℕ) → ((rule : Rule) → rule_number rule ≡ m → Unshown fill job rule) → When fill job m → ⊥
  not_given m none (out_of_range x) = x (in_range (none rules.OutOfRange refl))
  not_given m none (large_catchment g) = none rules.LargeCatchment refl 1 _ (scour_stands job.stage job.base job.scour job.clearance (load_rows_of job) g.has) (refl, g)
  not_given m none (too_intense g) = none rules.TooIntense refl 1 _ (scour_stands job.stage job.base job.scour job.clearance (load_rows_of job) g.has) (refl, g)
  not_given m none (over_obstructed g) = none rules.OverObstructed refl 2 _ (clearance_stands job.stage job.base job.scour job.clearance (load_rows_of job) g.has) (refl, g)
  not_given m none (blank x) = x (loads_every (λ r. BlankThere fill r → ⊥) job (stands_every _ rows (none rules.NoFill refl)))
  not_given m none (too_many h) = omega (arith, few (none rules.TooManyOptional refl) (length rows) (omega arith), ap optionals (take-length rows), rows_optionals job)
  not_given m none (upper_below_lower x) = x (loads_every (λ r. UpperBelowLower r → ⊥) job (stands_every _ rows (none rules.UpperBelowLower refl)))
  not_given m none (no_train x) =
      x (loads_every (λ r. NamesLive (load_rows_of job) (train r.kind r.numbers)) job (stands_every _ rows (λ i r s. named_unless (load_rows_of job) (train r.kind r.numbers) (none rules.NoTrain refl i r s))))
  not_given m none (not_above x) = x (loads_every (λ r. LengthNotAbove r → ⊥) job (stands_every _ rows (none rules.NotAbove refl)))
  not_given m none (type_e x) = x (loads_every (λ r. SoilTypeE r → ⊥) job (stands_every _ rows (none rules.TypeE refl)))

  -- ---- the lowest that is shown is told
  pub lowest : (rule : Rule) (i : ℕ) (row : Row) → StandsAt rows i row → ShownAt fill job rule i row → ((r : Rule) → rule_number r < rule_number rule → Unshown fill job r) → Refuses fill job (rule_number rule)
  lowest rule i row s x none = record {
    holds = given rule i row s x;
    least = λ m w. by_cases (dec_le (rule_number rule) m) (λ k. k) (λ k. absurd (not_given m (λ r e. none r (omega arith)) w));
  }

  pub lies : (rule : Rule) (position : ℕ) (row : Row) → First (ShownAt fill job rule) rows position row → ((r : Rule) → rule_number r < rule_number rule → Unshown fill job r)
      → Lies fill job rule position (λ shown. shown ≡ row)
  lies rule position row f none = record { refuses = lowest rule f.place row f.stands f.shows none; row = row; first = f; figures = refl }

  pub unrefused : ((r : Rule) → rule_number r < 21 → Unshown fill job r) → Unrefused fill job
  unrefused none m w = not_given m (λ r e. none r (omega (arith, number_low r))) w
