-- The definitions of the bounds by their tests, and how large what they answer is.
use mathlib.Core.Path.{◌≡◌}
use mathlib.Core.Bool.{Bool, true, false}
use Prim.Native.Nat.{ℕ, ◌+◌, ◌*◌, ◌-◌, ◌^◌, ◌≤◌, ◌<◌}
use native.Mathlib.Omega.{arith}
use native.Mathlib.Decide.{dec_lt}
use borrow.Author.Tests.{lt-ltb, le-ltb}
use Rattle.arithmetic.proofs.Cases.{by_cases}
use Rattle.weighing.specs.declared.ranked.RankedSet.{RankedSet}
use Rattle.weighing.specs.steps.Ranked.{order_of_ties}
use Rattle.weighing.specs.steps.Bounds.{later, bound_of, tied_above, lesser_number, lean_from}

-- ---- the definitions, by their tests
pub later_second : (a b : ℕ) → a < b → later a b ≡ b
unfolding later
later_second a b h = rw (lt-ltb a b h)

pub later_first : (a b : ℕ) → b ≤ a → later a b ≡ a
unfolding later
later_first a b h = rw (le-ltb a b h)

pub bound_free : (weighed : Bool) (by of rank : ℕ) → weighed ≡ false → bound_of weighed by of rank ≡ record { by = 0; of = 0 }
unfolding bound_of
bound_free weighed by of rank e = rw e

pub bound_multiplied : (weighed : Bool) (by of rank : ℕ) → weighed ≡ true → rank < 16777216 → bound_of weighed by of rank ≡ record { by = by * (rank + 1); of = of }
unfolding bound_of
bound_multiplied weighed by of rank e h = rw (e, lt-ltb rank 16777216 h)

pub bound_none : (weighed : Bool) (by of rank : ℕ) → weighed ≡ true → 16777216 ≤ rank → bound_of weighed by of rank ≡ record { by = 1; of = 0 }
unfolding bound_of
bound_none weighed by of rank e h = rw (e, le-ltb rank 16777216 h)

pub tied_free : (weighed : Bool) (worst : RankedSet) → weighed ≡ false → tied_above weighed worst ≡ 0
unfolding tied_above
tied_free weighed worst e = rw e

pub tied_below : (weighed : Bool) (worst : RankedSet) → weighed ≡ true → worst.rank < 2 ^ 64 - 1 → tied_above weighed worst ≡ 0
unfolding tied_above
tied_below weighed worst e h = rw (e, lt-ltb worst.rank (2 ^ 64 - 1) h)

pub tied_last : (weighed : Bool) (worst : RankedSet) → weighed ≡ true → 2 ^ 64 - 1 ≤ worst.rank → tied_above weighed worst ≡ 65536 * order_of_ties worst.set
unfolding tied_above
tied_last weighed worst e h = rw (e, le-ltb worst.rank (2 ^ 64 - 1) h)

pub below_most : (most rank : ℕ) → most < 2 ^ 64 - 1 - rank → lesser_number most rank ≡ most
unfolding lesser_number
below_most most rank h = rw (lt-ltb most (2 ^ 64 - 1 - rank) h)

pub below_shown : (most rank : ℕ) → 2 ^ 64 - 1 - rank ≤ most → lesser_number most rank ≡ 2 ^ 64 - 1 - rank - 1
unfolding lesser_number
below_shown most rank h = rw (le-ltb most (2 ^ 64 - 1 - rank) h)

pub lean_on_rock : (rock : Bool) (rank : ℕ) → rock ≡ true → lean_from rock rank ≡ 2 * lesser_number 499 rank
unfolding lean_from
lean_on_rock rock rank e = rw e

pub lean_on_soil : (rock : Bool) (rank : ℕ) → rock ≡ false → lean_from rock rank ≡ 998
unfolding lean_from
lean_on_soil rock rank e = rw e

-- ---- how large they are
pub later_over_first : (a b : ℕ) → a ≤ later a b
later_over_first a b = by_cases (dec_lt a b) (λ h. omega (arith, later_second a b h)) (λ h. omega (arith, later_first a b (omega arith)))

pub later_over_second : (a b : ℕ) → b ≤ later a b
later_over_second a b = by_cases (dec_lt a b) (λ h. omega (arith, later_second a b h)) (λ h. omega (arith, later_first a b (omega arith)))

-- the number below a figure is cut off,
pub number_most : (most rank : ℕ) → lesser_number most rank ≤ most
number_most most rank =
    by_cases (dec_lt most (2 ^ 64 - 1 - rank)) (λ h. omega (arith, below_most most rank h)) (λ h. omega (arith, below_shown most rank (omega arith)))
