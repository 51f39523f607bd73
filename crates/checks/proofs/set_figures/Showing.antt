-- The figure of a set from its natural sums is the figure of the definition, from N, H, M and the balance of each edge; and a set shows one figure.
use mathlib.Core.Path.{◌≡◌, sym, ◌∙◌, ap, subst}
use mathlib.Core.Bool.{Bool}
use Prim.Native.Nat.{ℕ, ◌-◌, ◌^◌, ◌≤◌}
use native.Mathlib.Omega.{arith}
use lib.IntN.{nat_abs}
use Rattle.arithmetic.specs.decides.Decides.{Decides}
use Rattle.arithmetic.proofs.Deciding.{decides_one}
use Rattle.arithmetic.specs.rounding.Least.{RoundedUp, RoundedDown}
use Rattle.arithmetic.specs.rounding.Rounding.{Exactly}
use Rattle.arithmetic.specs.signed.Whole.{above}
use Rattle.arithmetic.proofs.signed.Laws.{above_diff, size_diff}
use Rattle.sums.specs.declared.Balance.{Balance}
use Rattle.sets.specs.declared.Loads.{Loads}
use Rattle.sums.specs.declared.Sums.{Sums}
use Rattle.sums.specs.Totals.{N, H, M}
use Rattle.sums.specs.steps.Sums.{sums_from, Room}
use Rattle.sums.proofs.Adding.{n_is, h_is, m_is, plus_is, minus_is}
use Rattle.checks.specs.declared.Base.{Base}
use Rattle.checks.specs.declared.Check.{Check}
use Rattle.checks.specs.declared.Check.TheVariants.{OP, OM, SL, PR, RK}
use Rattle.checks.specs.declared.Figure.{Figure}
use Rattle.checks.specs.ranks.Figures.{TipsBy, SlidesBy, PressesBy, LeansBy}
use Rattle.checks.specs.steps.Rounded.{Tips, Slides, Presses, Leans}
use Rattle.checks.specs.set_figures.Figures.{ShowsBy, Shows, ShowsExactly}
use Rattle.checks.specs.steps.BySums.{apart, BySums, ShowsBySums, ExactBySums}
use Rattle.checks.specs.Sized.{Sized}
use Rattle.checks.proofs.ranks.Exactly.{tips_exactly, slides_exactly, presses_exactly, leans_exactly}
use Rattle.checks.proofs.ranks.Pressing.{presses_one}
use Rattle.checks.proofs.ranks.Ranks.{tips_one, slides_one, leans_one}

module _ (base : Base) (loads : Loads) (set : ℕ) where
  sums : Sums
  sums = sums_from base.width loads set

  weight : sums.v.above - sums.v.below ≡ above (N loads set)
  unfolding sums
  weight = sym (ap above (n_is base.width loads set) ∙ above_diff _ _)

  sliding_force : apart sums.h ≡ nat_abs (H loads set)
  unfolding sums apart
  sliding_force = sym (ap nat_abs (h_is base.width loads set) ∙ size_diff _ _)

  turn : apart sums.m ≡ nat_abs (M loads set)
  unfolding sums apart
  turn = sym (ap nat_abs (m_is base.width loads set) ∙ size_diff _ _)

  -- however quotients are taken
  same_figure : (down up : ℕ → ℕ → ℕ → Type 0) (check : Check) (v : Figure) → BySums down up check base sums v ≡ ShowsBy down up check base loads set v
  unfolding sums
  same_figure down up OP v = ap (λ (b : Balance). TipsBy down b.resisting b.overturning v) (plus_is base.width loads set)
  same_figure down up OM v = ap (λ (b : Balance). TipsBy down b.resisting b.overturning v) (minus_is base.width loads set)
  same_figure down up SL v = λ i. SlidesBy down base.friction (weight i) (sliding_force i) v
  same_figure down up PR v = λ i. PressesBy up base.width base.length (weight i) (turn i) v
  same_figure down up RK v = λ i. LeansBy up base.width (weight i) (turn i) v

  pub by_sums_shows : (check : Check) (v : Figure) → ShowsBySums check base (sums_from base.width loads set) v → Shows check base loads set v
  unfolding sums ShowsBySums Shows
  by_sums_shows check v h = subst (λ (A : Type 0). A) (same_figure RoundedDown RoundedUp check v) h

  pub exact_by_sums : (check : Check) (v : Figure) → ExactBySums check base (sums_from base.width loads set) v ≡ ShowsExactly check base loads set v
  unfolding sums ExactBySums ShowsExactly
  exact_by_sums check v = same_figure Exactly Exactly check v

-- A set shows one figure.
pub shows_one : (check : Check) (base : Base) (loads : Loads) (set : ℕ) (v w : Figure) → Shows check base loads set v → Shows check base loads set w → v ≡ w
unfolding Shows Tips Slides Presses Leans
shows_one OP base loads set v w p q = tips_one _ _ v w p q
shows_one OM base loads set v w p q = tips_one _ _ v w p q
shows_one SL base loads set v w p q = slides_one _ _ _ v w p q
shows_one PR base loads set v w p q = presses_one _ _ _ _ v w p q
shows_one RK base loads set v w p q = leans_one _ _ _ v w p q

-- whether a set's figure is exact has one answer
pub exact_one : (check : Check) (base : Base) (loads : Loads) (set : ℕ) {a b : Bool} (v : Figure) → Shows check base loads set v
    → ((w : Figure) → Shows check base loads set w → Decides a (ShowsExactly check base loads set w))
    → ((w : Figure) → Shows check base loads set w → Decides b (ShowsExactly check base loads set w)) → a ≡ b
exact_one check base loads set {a} {b} v h p q = decides_one (ShowsExactly check base loads set v) a b (p v h) (q v h)

-- a figure that is exact is the figure shown: nothing rounds it
pub exact_shows : (check : Check) (base : Base) (loads : Loads) (set : ℕ) (v : Figure) → Sized base → ShowsExactly check base loads set v → Shows check base loads set v
unfolding Shows ShowsExactly
exact_shows OP base loads set v s p = tips_exactly _ _ v p
exact_shows OM base loads set v s p = tips_exactly _ _ v p
exact_shows SL base loads set v s p = slides_exactly _ _ _ v p
exact_shows PR base loads set v s p = presses_exactly _ _ _ _ v s.wide s.long p
exact_shows RK base loads set v s p = leans_exactly _ _ _ v s.wide p

-- the sums of 16 rows are small enough for every figure
pub record SmallSums (sums : Sums) : Type 0 where
  pub n : sums.v.above - sums.v.below ≤ 2 ^ 20
  pub h : apart sums.h ≤ 2 ^ 24
  pub m : apart sums.m ≤ 2 ^ 40
  pub plus : sums.plus.resisting ≤ 2 ^ 40
  pub minus : sums.minus.resisting ≤ 2 ^ 40
  pub over_plus : sums.plus.overturning ≤ 2 ^ 38
  pub over_minus : sums.minus.overturning ≤ 2 ^ 38

pub small_sums : {sums : Sums} → Room 16 sums → SmallSums sums
unfolding apart
small_sums r = record { n = omega arith; h = omega arith; m = omega arith; plus = omega arith; minus = omega arith; over_plus = omega arith; over_minus = omega arith }
