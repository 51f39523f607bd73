-- A rank and a set as one weight: which of two comes first, that the worse of a ranked set and of a set more is one, and how it is offered.
use mathlib.Core.Path.{◌≡◌, refl, sym, ap₂, subst}
use mathlib.Core.Logic.{inl, inr, ⊎_elim}
use Prim.Native.Nat.{ℕ, zero, suc, ◌+◌, ◌*◌, ◌≤◌, ◌<◌}
use native.Mathlib.Omega.{arith}
use native.Mathlib.Nat.{le_antisymm, le_refl}
use lib.Count.{ones, ones-le}
use Rattle.checks.specs.declared.Figure.{Figure}
use Rattle.checks.specs.Order.{Side}
use Rattle.checks.specs.steps.Ranks.{Ranks}
use Rattle.checks.proofs.Ranking.{ranks_one}
use Rattle.weighing.specs.declared.ranked.RankedSet.{RankedSet}
use Rattle.weighing.specs.steps.Ranked.{order_of_ties, weight, weight_of, WorseOf, Offered}

-- ---- the order of sets with one figure
pub tie_order_none : order_of_ties 0 ≡ 17 * 65536
unfolding order_of_ties
tie_order_none = refl

pub tie_order_some : (s : ℕ) → 0 < s → order_of_ties s ≡ ones s * 65536 + s
unfolding order_of_ties
tie_order_some zero h = absurd (omega arith)
tie_order_some (suc s) h = refl

pub tie_order_low : (s : ℕ) → s < 65536 → order_of_ties s ≤ 17 * 65536
unfolding order_of_ties
tie_order_low zero h = le_refl _
tie_order_low (suc s) h = omega (arith, ones-le 16 (suc s) h)

pub some_low : (s : ℕ) → 0 < s → s < 65536 → order_of_ties s < 17 * 65536
some_low s p h = omega (arith, tie_order_some s p, ones-le 16 s h)

-- ---- a rank that is less weighs less
pub weight_rank : (m n s t : ℕ) → m < n → s < 65536 → t < 65536 → weight m s ≤ weight n t
unfolding weight
weight_rank m n s t h p q = omega (arith, tie_order_low s p, tie_order_low t q)

pub weight_tie_order : (m n s t : ℕ) → m ≡ n → order_of_ties s ≤ order_of_ties t → weight m s ≤ weight n t
unfolding weight
weight_tie_order m n s t e h = omega arith

-- ---- the worse of two
pub worse_of_new : (b : RankedSet) (n s : ℕ) → weight n s ≤ weight_of b → WorseOf b n s (record { rank = n; set = s })
unfolding weight_of
worse_of_new b n s h = record { from = inr (refl, refl); kept = h; first = le_refl _ }

pub worse_of_old : (b : RankedSet) (n s : ℕ) → weight_of b ≤ weight n s → WorseOf b n s b
worse_of_old b n s h = record { from = inl refl; kept = le_refl _; first = h }

-- a set whose figure is plainly no worse
pub offered_old : (s : Side) (P : Figure → Type 0) (b : RankedSet) (set n : ℕ) → Ranks s P n → b.rank < n → b.set < 65536 → set < 65536 → Offered s P b set b
unfolding weight_of
offered_old s P b set n r h p q = record { rank = n; ranks = r; worse = worse_of_old b n set (weight_rank b.rank n b.set set h p q) }

pub worse_of_low : {b r : RankedSet} {n s : ℕ} → b.set < 65536 → s < 65536 → WorseOf b n s r → r.set < 65536
worse_of_low {b} {r} {n} {s} p q w =
    ⊎_elim (λ e. subst (λ (m : RankedSet). m.set < 65536) (sym e) p) (λ e. subst (λ (k : ℕ). k < 65536) (sym e.1) q) w.from

pub offered_low : {from : Side} {P : Figure → Type 0} {b r : RankedSet} {s : ℕ} → b.set < 65536 → s < 65536 → Offered from P b s r → r.set < 65536
offered_low p q o = worse_of_low p q o.worse

-- ---- a weight tells its rank and its set
tie_order_one : (s t : ℕ) → s < 65536 → t < 65536 → order_of_ties s ≡ order_of_ties t → s ≡ t
tie_order_one zero zero p q e = refl
tie_order_one zero (suc t) p q e = absurd (omega (arith, tie_order_none, some_low (suc t) (omega arith) q, e))
tie_order_one (suc s) zero p q e = absurd (omega (arith, tie_order_none, some_low (suc s) (omega arith) p, e))
tie_order_one (suc s) (suc t) p q e = omega (arith, tie_order_some (suc s) (omega arith), tie_order_some (suc t) (omega arith), p, q, e)

weight_one : (a b : RankedSet) → a.set < 65536 → b.set < 65536 → weight_of a ≡ weight_of b → a ≡ b
unfolding weight_of weight
weight_one a b p q e = λ i. record { rank = ranks i; set = tie_order_one a.set b.set p q (omega (arith, e, ranks)) i }
  where
    ranks : a.rank ≡ b.rank
    ranks = omega (arith, e, tie_order_low a.set p, tie_order_low b.set q)

module _ {b : RankedSet} {n s : ℕ} (p : b.set < 65536) (q : s < 65536) where
  lightest : {r t : RankedSet} → WorseOf b n s r → WorseOf b n s t → weight_of r ≤ weight_of t
  unfolding weight_of
  lightest {r} {t} x y =
      ⊎_elim (λ e. subst (λ (m : RankedSet). weight_of r ≤ weight_of m) (sym e) x.kept) (λ e. subst (λ (m : ℕ). weight_of r ≤ m) (sym (ap₂ weight e.0 e.1)) x.first) y.from

  pub worse_of_one : {r t : RankedSet} → WorseOf b n s r → WorseOf b n s t → r ≡ t
  worse_of_one {r} {t} x y = weight_one r t (worse_of_low p q x) (worse_of_low p q y) (le_antisymm (lightest x y) (lightest y x))

-- The worse of a ranked set and of a set more is one where the set more has one figure.
pub offered_one : {from : Side} {P : Figure → Type 0} {b : RankedSet} {s : ℕ} {r t : RankedSet} → ((v w : Figure) → P v → P w → v ≡ w) → b.set < 65536 → s < 65536
    → Offered from P b s r → Offered from P b s t → r ≡ t
offered_one {from} {P} {b} {s} {r} {t} one p q x y =
    worse_of_one p q (subst (λ (n : ℕ). WorseOf b n s r) (ranks_one one x.ranks y.ranks) x.worse) y.worse
