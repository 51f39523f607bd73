-- Each check has one limit at most; and which checks have one: OP, OM and SL in a combination that serves, PR in all, and RK on rock.
use mathlib.Core.Path.{◌≡◌, refl, sym, ◌∙◌}
use Prim.Native.Nat.{ℕ, ◌*◌, ◌/◌}
use lib.Dec.{lit<}
use Rattle.arithmetic.proofs.rounding.Laws.{greatest_one, down_div}
use Rattle.sets.specs.declared.Combination.{Combination}
use Rattle.sets.specs.declared.Combination.TheVariants.{I, II, III, IV}
use Rattle.checks.specs.declared.Base.{Base}
use Rattle.checks.specs.declared.Check.{Check}
use Rattle.checks.specs.declared.Check.TheVariants.{OP, OM, SL, PR, RK}
use Rattle.checks.specs.limits.Limits.{TippingLimit, SlidingLimit, PressureLimit, Limit}
use Rattle.checks.specs.service.Service.{Service}

tipping_one : (k : Combination) {m n : ℕ} → TippingLimit k m → TippingLimit k n → m ≡ n
unfolding TippingLimit
tipping_one I p q = p ∙ sym q
tipping_one II p q = p ∙ sym q
tipping_one III p q = p ∙ sym q
tipping_one IV p q = absurd p

sliding_one : (k : Combination) {m n : ℕ} → SlidingLimit k m → SlidingLimit k n → m ≡ n
unfolding SlidingLimit
sliding_one I p q = p ∙ sym q
sliding_one II p q = p ∙ sym q
sliding_one III p q = p ∙ sym q
sliding_one IV p q = absurd p

pressure_limit_one : (k : Combination) (a : ℕ) {m n : ℕ} → PressureLimit k a m → PressureLimit k a n → m ≡ n
unfolding PressureLimit
pressure_limit_one I a p q = p ∙ sym q
pressure_limit_one II a p q = greatest_one p q
pressure_limit_one III a p q = greatest_one p q
pressure_limit_one IV a p q = greatest_one p q

pub limit_one : (k : Combination) (check : Check) (base : Base) (m n : ℕ) → Limit k check base m → Limit k check base n → m ≡ n
unfolding Limit
limit_one k OP base m n p q = tipping_one k p q
limit_one k OM base m n p q = tipping_one k p q
limit_one k SL base m n p q = sliding_one k p q
limit_one k PR base m n p q = pressure_limit_one k base.allowable p q
limit_one k RK base m n p q = p.1 ∙ sym q.1

-- ---- which checks have a limit: OP and OM where the combination serves, by definition, and SL there and nowhere else
pub serves_sliding : (k : Combination) → Service k → (n : ℕ) × SlidingLimit k n
unfolding Service TippingLimit SlidingLimit
serves_sliding I s = (150, refl)
serves_sliding II s = (125, refl)
serves_sliding III s = (125, refl)
serves_sliding IV s = absurd s.1

pub sliding_serves : (k : Combination) → (n : ℕ) × SlidingLimit k n → Service k
unfolding Service TippingLimit SlidingLimit
sliding_serves I l = (200, refl)
sliding_serves II l = (150, refl)
sliding_serves III l = (150, refl)
sliding_serves IV l = absurd l.1

-- PR in every combination
pub pressure_limited : (k : Combination) (allowable : ℕ) → (n : ℕ) × PressureLimit k allowable n
unfolding PressureLimit
pressure_limited I allowable = (allowable, refl)
pressure_limited II allowable = (4 * allowable / 3, down_div (4 * allowable) 3 (lit< tt))
pressure_limited III allowable = (4 * allowable / 3, down_div (4 * allowable) 3 (lit< tt))
pressure_limited IV allowable = (7 * allowable / 5, down_div (7 * allowable) 5 (lit< tt))
