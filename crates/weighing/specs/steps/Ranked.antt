-- What `tie_order` and `worse` answer: the order of ranked sets, as one number, and what it is to be the worse of it and of one set more.
use Rattle.std.specs.Prelude.{◌≡◌, ◌⊎◌, ℕ, zero, suc, ◌+◌, ◌*◌, ◌≤◌}
use Rattle.std.specs.Int.Count.{ones}
use Rattle.checks.specs.declared.Figure.{Figure}
use Rattle.checks.specs.Order.{Side}
use Rattle.checks.specs.steps.Ranks.{Ranks}
use Rattle.weighing.specs.declared.ranked.RankedSet.{RankedSet}

-- The order of the sets with one figure: the fewest rows first, then the smallest number. 0 stands for no set, and comes last.
unfoldable pub order_of_ties : ℕ → ℕ
order_of_ties zero = 17 * 65536
order_of_ties (suc s) = ones (suc s) * 65536 + suc s

-- a rank and a set as one number: the worst figure first
unfoldable pub weight : ℕ → ℕ → ℕ
weight r s = r * (18 * 65536) + order_of_ties s

unfoldable pub weight_of : RankedSet → ℕ
weight_of m = weight m.rank m.set

-- r is the worse of b and of the set s with the rank n: of the two the one that weighs less
pub record WorseOf (b : RankedSet) (n s : ℕ) (r : RankedSet) : Type 0 where
  pub from : (r ≡ b) ⊎ ((r.rank ≡ n) × (r.set ≡ s))
  pub kept : weight_of r ≤ weight_of b
  pub first : weight_of r ≤ weight n s

-- r is the worse of b and of the set s, of whose figure P says which it is
pub record Offered (from : Side) (P : Figure → Type 0) (b : RankedSet) (s : ℕ) (r : RankedSet) : Type 0 where
  pub rank : ℕ
  pub ranks : Ranks from P rank
  pub worse : WorseOf b rank s r
