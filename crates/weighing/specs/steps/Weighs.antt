-- What `weigh` and `visit` answer: the worst so far of each check, and what it is to be the worse of it and of one set more.
use Rattle.std.specs.Prelude.{◌≡◌, ◌⊎◌, Bool, true, ◌-◌, ◌^◌, ◌≤◌, ◌<◌}
use Rattle.sets.specs.declared.Combination.{Combination}
use Rattle.sums.specs.declared.carried.Carried.{Carried}
use Rattle.sums.specs.steps.Carried.{over_zero, from_zero, wind_count, earthquake_count, carried_set}
use Rattle.sets.specs.steps.Deciding.{Admits}
use Rattle.checks.specs.declared.Base.{Base}
use Rattle.checks.specs.declared.Check.{Check}
use Rattle.checks.specs.declared.Check.TheVariants.{OP, OM, SL, PR, RK}
use Rattle.checks.specs.declared.Figure.{Figure}
use Rattle.checks.specs.steps.Rounded.{Tips, Slides, Presses, Leans}
use Rattle.checks.specs.Order.{side}
use Rattle.weighing.specs.declared.ranked.RankedSet.{RankedSet}
use Rattle.weighing.specs.declared.Worst.{Worst}
use Rattle.weighing.specs.steps.Ranked.{Offered}

-- ---- carried sums
-- the figures of the set that they are of
unfoldable pub ShowsCarried : Check → Base → Carried → Figure → Type 0
ShowsCarried OP base c v = Tips c.plus.resisting c.plus.overturning v
ShowsCarried OM base c v = Tips c.minus.resisting c.minus.overturning v
ShowsCarried SL base c v = Slides base.friction (over_zero c.n) (from_zero c.h) v
ShowsCarried PR base c v = Presses base.width base.length (over_zero c.n) (from_zero c.m) v
ShowsCarried RK base c v = Leans base.width (over_zero c.n) (from_zero c.m) v

-- small enough for every figure, as the sums of 16 rows are
pub record SmallCarried (c : Carried) : Type 0 where
  pub n : over_zero c.n ≤ 2 ^ 20
  pub h : from_zero c.h ≤ 2 ^ 24
  pub m : from_zero c.m ≤ 2 ^ 40
  pub plus : c.plus.resisting ≤ 2 ^ 40
  pub minus : c.minus.resisting ≤ 2 ^ 40
  pub over_plus : c.plus.overturning ≤ 2 ^ 38
  pub over_minus : c.minus.overturning ≤ 2 ^ 38

-- ---- the worst so far
-- the worst so far of each check
unfoldable pub ranked_of : Check → Worst → RankedSet
ranked_of OP worst = worst.op
ranked_of OM worst = worst.om
ranked_of SL worst = worst.sl
ranked_of PR worst = worst.pr
ranked_of RK worst = worst.rk

-- the checks that are weighed: OP, OM and SL where the combination is one of service, RK where the base is on rock
unfoldable pub Weighed : Bool → Base → Check → Type 0
Weighed serves base OP = serves ≡ true
Weighed serves base OM = serves ≡ true
Weighed serves base SL = serves ≡ true
Weighed serves base PR = Unit {0}
Weighed serves base RK = base.rock ≡ true

-- every set of the worst so far is one of 16 rows
unfoldable pub Low : Worst → Type 0
Low worst = (check : Check) → (ranked_of check worst).set < 65536

-- and every rank a word
abbrev pub Words : Worst → Type 0
Words worst = (check : Check) → (ranked_of check worst).rank ≤ 2 ^ 64 - 1

-- r is the worst so far with the set of these carried sums weighed; a check that is not weighed stays as it was
pub record Weighs (serves : Bool) (base : Base) (c : Carried) (b r : Worst) : Type 0 where
  pub offered : (check : Check) → Weighed serves base check → Offered (side check) (ShowsCarried check base c) (ranked_of check b) (carried_set c) (ranked_of check r)
  pub left : (check : Check) → (Weighed serves base check → ⊥) → ranked_of check r ≡ ranked_of check b
  pub low : Low r

-- the same of a set that counts only where its wind and earthquake rows may act together
pub record Visits (combination : Combination) (serves : Bool) (base : Base) (c : Carried) (b r : Worst) : Type 0 where
  pub came : (Admits combination (wind_count c) (earthquake_count c) (carried_set c) × Weighs serves base c b r)
      ⊎ ((Admits combination (wind_count c) (earthquake_count c) (carried_set c) → ⊥) × (r ≡ b))
  pub low : Low r
