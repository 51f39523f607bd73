-- The line of OP in I, of rows of which two sets print 200: that a set is the one named is a test that is computed, of each set that I permits.
use mathlib.Core.Path.{◌≡◌, refl, sym, ◌∙◌, ap, subst}
use mathlib.Core.Logic.{inl}
use mathlib.Core.Bool.{Bool, true}
use Prim.Native.Nat.{ℕ, zero, suc, ◌*◌, ◌/◌, ◌%◌, ◌≤◌, ◌<◌}
use native.Mathlib.Nat.{not-le_of_lt}
use native.Mathlib.Omega.{arith}
use lib.Count.{ones}
use lib.Dec.{T, leb, ltb, eqb, leb→le, ltb→lt, eqb→eq, lit≤, lit<}
use Rattle.arithmetic.specs.signed.Whole.{signed, worth, amount, above, below}
use Rattle.arithmetic.proofs.Cases.{impossible, unlike}
use Rattle.arithmetic.proofs.rounding.Compute.{is_told, told_test}
use Rattle.arithmetic.proofs.rounding.Tables.{both, both_first, both_second}
use Rattle.kinds.specs.classes.Classes.{class_of, source}
use Rattle.sets.specs.declared.Combination.TheVariants.{I}
use Rattle.sets.specs.declared.Loads.{Loads}
use Rattle.sets.specs.Sets.{bit, row, own_phase, Acts, HasTrain, Permitted}
use Rattle.sets.proofs.Bits.{first_bit}
use Rattle.sums.specs.Totals.{counted, sum, arm, v_moment, h_moment, resists, overturns, resisting, overturning}
use Rattle.checks.specs.declared.Check.TheVariants.{OP}
use Rattle.checks.specs.declared.Figure.{Figure}
use Rattle.checks.specs.declared.Figure.TheVariants.{Nothing, Number, Off}
use Rattle.checks.specs.set_figures.Figures.{Shows, ShowsExactly}
use Rattle.checks.specs.Order.{lowest, side, WorseNumber, Worse}
use Rattle.checks.specs.limits.Limits.{TippingLimit, Limit}
use Rattle.checks.specs.passing.Passing.{PassesNumber, Passes}
use Rattle.checks.proofs.set_figures.Showing.{shows_one}
use Rattle.weighing.specs.Named.{Named}
use Rattle.worst.specs.Lines.{LineSays}
use Rattle.figures.specs.Figures.{twice_200, four_by_eight, LineInI}
use Rattle.figures.proofs.Trained.{permitted_with}
use Rattle.figures.proofs.Told.{loads_of, are_loads, is_shown, is_exact, shows_test, exact_test}

-- the odd sets of three rows, one by one
of_four : (P : ℕ → Type 0) → P 0 → P 1 → P 2 → P 3 → (k : ℕ) → k < 4 → P k
of_four P a b c d zero h = a
of_four P a b c d (suc zero) h = b
of_four P a b c d (suc (suc zero)) h = c
of_four P a b c d (suc (suc (suc zero))) h = d
of_four P a b c d (suc (suc (suc (suc k)))) h = absurd (omega arith)

of_odd : (P : ℕ → Type 0) → P 1 → P 3 → P 5 → P 7 → (t : ℕ) → t < 8 → t % 2 ≡ 1 → P t
of_odd P a b c d t h o = let half : suc (2 * (t / 2)) ≡ t = omega arith in subst P half (of_four (λ k. P (suc (2 * k))) a b c d (t / 2) (omega arith))

abbrev its_loads : Loads
its_loads = loads_of twice_200

-- a set permitted in I has the dead load
odd : (t : ℕ) → Permitted I its_loads t → t % 2 ≡ 1
unfolding class_of row Acts own_phase
odd t p = sym (first_bit t) ∙ p.permanent 0 (lit< tt) refl (inl refl)

abbrev size : Figure → ℕ
size Nothing = 0
size (Number v) = v
size Off = 0

module _ (s : ℕ) where
  -- s has no more rows than t, and no larger number
  abbrev is_before : ℕ → Bool
  is_before t = both (leb (ones s) (ones t)) (leb s t)

  before : (t : ℕ) → T (is_before t) → (ones s ≤ ones t) × (s ≤ t)
  before t b = (leb→le _ _ (both_first (leb (ones s) (ones t)) (leb s t) b), leb→le s t (both_second (leb (ones s) (ones t)) (leb s t) b))

  -- what is to be known of a set t, so that s may be named: its figure is not worse than 200, and s comes before it where it is 200
  pub record Passed (t : ℕ) : Type 0 where
    pub figure : Figure
    pub shows : Shows OP four_by_eight its_loads t figure
    pub no_worse : Worse lowest figure (Number 200) → ⊥
    pub behind : figure ≡ Number 200 → (ones s ≤ ones t) × (s ≤ t)

  module _ (low : T (ltb s 8)) (has : T (eqb (s % 2) 1)) (shown : T (is_shown four_by_eight its_loads s OP (Number 200))) (third : T (is_before 3)) (seventh : T (is_before 7)) where
    passed : (t : ℕ) → Permitted I its_loads t → Passed t
    unfolding signed worth amount bit row sum counted resists overturns v_moment h_moment arm above below resisting overturning Worse WorseNumber
    passed t p =
        of_odd Passed (record { figure = Nothing; shows = shows_test four_by_eight its_loads 1 OP Nothing tt; no_worse = λ w. w; behind = λ e. impossible cc })
        (record { figure = Number 200; shows = shows_test four_by_eight its_loads 3 OP (Number 200) tt; no_worse = λ w. not-le_of_lt w (lit≤ tt); behind = λ e. before 3 third })
        (record {
          figure = Number 2000000;
          shows = shows_test four_by_eight its_loads 5 OP (Number 2000000) tt;
          no_worse = λ w. not-le_of_lt w (lit≤ tt);
          behind = λ e. unlike 2000000 200 refl (ap size e);
        })
        (record { figure = Number 200; shows = shows_test four_by_eight its_loads 7 OP (Number 200) tt; no_worse = λ w. not-le_of_lt w (lit≤ tt); behind = λ e. before 7 seventh })
        t
        p.within
        (odd t p)

    reaches : Shows OP four_by_eight its_loads s (Number 200)
    reaches = shows_test four_by_eight its_loads s OP (Number 200) shown

    named : Named lowest (Permitted I its_loads) (Shows OP four_by_eight its_loads) (Number 200) s
    unfolding class_of HasTrain signed
    named =
        record {
          permitted = permitted_with 1000 100 9999 0 1 100 s (ltb→lt s 8 low) (first_bit s ∙ eqb→eq (s % 2) 1 has) (λ b. tt);
          reaches = reaches;
          no_worse = λ t w p x worse.
              let q = passed t p in
              q.no_worse (subst (λ (f : Figure). Worse lowest f (Number 200)) (shows_one OP four_by_eight its_loads t w q.figure x q.shows) worse);
          fewest = λ t p x. (same t p x).0;
          smallest = λ t p x e. (same t p x).1;
        }
      where
        same : (t : ℕ) → Permitted I its_loads t → Shows OP four_by_eight its_loads t (Number 200) → (ones s ≤ ones t) × (s ≤ t)
        same t p x = let q = passed t p in q.behind (shows_one OP four_by_eight its_loads t q.figure (Number 200) q.shows x)

    pub printed_in_I : (exact : Bool) → T (is_told exact (is_exact four_by_eight its_loads s OP (Number 200))) → LineInI twice_200 OP four_by_eight (Number 200) 200 s true exact
    unfolding source LineSays side Limit TippingLimit Passes PassesNumber
    printed_in_I exact t =
        record {
          loads = its_loads;
          its_loads = are_loads twice_200 tt;
          says = record {
            named = named;
            limited = refl;
            marked = lit≤ tt;
            told = told_test (ShowsExactly OP four_by_eight its_loads s (Number 200)) exact (is_exact four_by_eight its_loads s OP (Number 200)) t
                (exact_test four_by_eight its_loads s OP (Number 200) reaches);
          };
        }
