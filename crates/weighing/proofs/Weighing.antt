-- The worst so far with one set more is one.
use mathlib.Core.Path.{◌≡◌, refl, sym, ◌∙◌}
use mathlib.Core.Logic.{⊎_elim}
use mathlib.Core.Bool.{Bool, true, false, true≢false}
use Prim.Native.Nat.{◌<◌}
use native.Mathlib.Omega.{arith}
use Rattle.arithmetic.proofs.Cases.{by_cases}
use Rattle.sets.specs.declared.Combination.{Combination}
use Rattle.sums.specs.declared.carried.Carried.{Carried}
use Rattle.checks.specs.declared.Base.{Base}
use Rattle.checks.specs.declared.Check.{Check}
use Rattle.checks.specs.declared.Check.TheVariants.{OP, OM, SL, PR, RK}
use Rattle.checks.specs.declared.Figure.{Figure}
use Rattle.checks.proofs.ranks.Pressing.{presses_one}
use Rattle.checks.proofs.ranks.Ranks.{tips_one, slides_one, leans_one}
use Rattle.weighing.specs.declared.Worst.{Worst}
use Rattle.weighing.specs.steps.Weighs.{ShowsCarried, ranked_of, Weighed, Low, Weighs, Visits}
use Rattle.sums.specs.steps.Carried.{carried_set}
use Rattle.weighing.proofs.ranked.Weights.{offered_one}

-- Carried sums show one figure.
carried_one : (check : Check) (base : Base) (c : Carried) (v w : Figure) → ShowsCarried check base c v → ShowsCarried check base c w → v ≡ w
unfolding ShowsCarried
carried_one OP base c v w p q = tips_one _ _ v w p q
carried_one OM base c v w p q = tips_one _ _ v w p q
carried_one SL base c v w p q = slides_one _ _ _ v w p q
carried_one PR base c v w p q = presses_one _ _ _ _ v w p q
carried_one RK base c v w p q = leans_one _ _ _ v w p q

is_on : (on : Bool) → Dec (on ≡ true)
is_on true = yes refl
is_on false = no (λ e. true≢false (sym e))

-- whether a check is weighed is decided
pub weighed_or_not : (serves : Bool) (base : Base) (check : Check) → Dec (Weighed serves base check)
unfolding Weighed
weighed_or_not serves base OP = is_on serves
weighed_or_not serves base OM = is_on serves
weighed_or_not serves base SL = is_on serves
weighed_or_not serves base PR = yes tt
weighed_or_not serves base RK = is_on base.rock

set_in_low : (c : Carried) → carried_set c < 65536
unfolding carried_set
set_in_low c = omega arith

-- No second answer meets the promise of `weigh`.
module _ (serves : Bool) (base : Base) (c : Carried) {b r t : Worst} (low : Low b) (x : Weighs serves base c b r) (y : Weighs serves base c b t) where
  ranked_one : (check : Check) → ranked_of check r ≡ ranked_of check t
  unfolding Low
  ranked_one check =
      by_cases (weighed_or_not serves base check)
      (λ o. offered_one (carried_one check base c) (low check) (set_in_low c) (x.offered check o) (y.offered check o))
      (λ n. x.left check n ∙ sym (y.left check n))

  pub weighs_one : r ≡ t
  unfolding ranked_of
  weighs_one = λ i. record { op = ranked_one OP i; om = ranked_one OM i; sl = ranked_one SL i; pr = ranked_one PR i; rk = ranked_one RK i }

-- No second answer meets the promise of `visit`.
pub visits_one : (combination : Combination) (serves : Bool) (base : Base) (c : Carried) {b r t : Worst} → Low b
    → Visits combination serves base c b r → Visits combination serves base c b t → r ≡ t
visits_one combination serves base c low x y =
    ⊎_elim
    (λ p. ⊎_elim (λ q. weighs_one serves base c low p.1 q.1) (λ q. absurd (q.0 p.0)) y.came)
    (λ p. ⊎_elim (λ q. absurd (p.0 q.0)) (λ q. p.1 ∙ sym q.1) y.came)
    x.came
