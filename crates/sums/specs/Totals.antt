-- Document 01, Load sets: the sums over the rows of a set. N and the sum of H are in kN, M in kN mm, and so is what resists and what overturns.
use Rattle.std.specs.Prelude.{ℕ, zero, suc, ◌+◌, ℤ, pos, ◌+ℤ◌, ◌-ℤ◌, ◌*ℤ◌, neg_ℤ}
use Rattle.arithmetic.specs.signed.Whole.{worth, above, below}
use Rattle.sets.specs.declared.Load.{Load}
use Rattle.sets.specs.declared.Loads.{Loads}
use Rattle.sets.specs.Sets.{bit, row}

-- what a row gives counts where the row is in the set
unfoldable pub countedℤ : ℕ → ℤ → ℤ
countedℤ zero z = pos 0
countedℤ (suc held) z = z

unfoldable pub counted : ℕ → ℕ → ℕ
counted zero n = 0
counted (suc held) n = n

-- the sum over the first n rows, of whole numbers and of natural ones
unfoldable pub sumℤ : (Load → ℤ) → Loads → ℕ → ℕ → ℤ
unfolding countedℤ
sumℤ gives loads set zero = pos 0
sumℤ gives loads set (suc n) = sumℤ gives loads set n +ℤ countedℤ (bit set n) (gives (row loads n))

unfoldable pub sum : (Load → ℕ) → Loads → ℕ → ℕ → ℕ
unfolding counted
sum gives loads set zero = 0
sum gives loads set (suc n) = sum gives loads set n + counted (bit set n) (gives (row loads n))

-- "N sums V"
unfoldable pub N : Loads → ℕ → ℤ
N loads set = sumℤ (λ load. worth load.v) loads set loads.count

-- the sum of H
unfoldable pub H : Loads → ℕ → ℤ
H loads set = sumℤ (λ load. worth load.h) loads set loads.count

-- "M sums 2Vx+2Hy"
unfoldable pub moment : Load → ℤ
moment load = pos 2 *ℤ (worth load.v *ℤ worth load.x) +ℤ pos 2 *ℤ worth load.twist

unfoldable pub M : Loads → ℕ → ℤ
M loads set = sumℤ moment loads set loads.count

-- the two edges, at +x and at -x
pub data Edge : Type 0 where
  plus : Edge
  minus : Edge

-- A row's V(B - 2x) and -2Hy at the edge at +x; V(B + 2x) and +2Hy at the edge at -x.
unfoldable pub arm : Edge → ℕ → ℤ → ℤ
arm plus width x = pos width -ℤ pos 2 *ℤ x
arm minus width x = pos width +ℤ pos 2 *ℤ x

unfoldable pub v_moment : Edge → ℕ → Load → ℤ
v_moment edge width load = worth load.v *ℤ arm edge width (worth load.x)

unfoldable pub h_moment : Edge → Load → ℤ
h_moment plus load = neg_ℤ (pos 2 *ℤ worth load.twist)
h_moment minus load = pos 2 *ℤ worth load.twist

-- Each of the two resists if positive and overturns if negative.
unfoldable pub resists : Edge → ℕ → Load → ℕ
resists edge width load = above (v_moment edge width load) + above (h_moment edge load)

unfoldable pub overturns : Edge → ℕ → Load → ℕ
overturns edge width load = below (v_moment edge width load) + below (h_moment edge load)

unfoldable pub resisting : Edge → ℕ → Loads → ℕ → ℕ
resisting edge width loads set = sum (resists edge width) loads set loads.count

unfoldable pub overturning : Edge → ℕ → Loads → ℕ → ℕ
overturning edge width loads set = sum (overturns edge width) loads set loads.count
