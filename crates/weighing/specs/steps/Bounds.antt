-- What the functions of `bounds` answer: the bounds of the worst so far, and which sets are within them.
use Rattle.std.specs.Prelude.{Bool, true, false, cond, ℕ, ◌+◌, ◌*◌, ◌-◌, ◌/◌, ◌^◌, ◌≤◌, ◌<◌, ltb}
use Rattle.sums.specs.declared.carried.Carried.{Carried}
use Rattle.sums.specs.steps.Carried.{over_zero, from_zero}
use Rattle.checks.specs.declared.Base.{Base}
use Rattle.weighing.specs.declared.ranked.RankedSet.{RankedSet}
use Rattle.weighing.specs.declared.bounds.Bound.{Bound}
use Rattle.weighing.specs.declared.bounds.Bounds.{Bounds}
use Rattle.weighing.specs.declared.Worst.{Worst}
use Rattle.weighing.specs.steps.Ranked.{order_of_ties}

-- the later of two keys
unfoldable pub later : ℕ → ℕ → ℕ
later a b = cond (ltb a b) b a

-- the bound of OP, OM or SL, where it is weighed: from 2^24 on a figure so far is not multiplied out, and only "none" is within
unfoldable pub bound_of : Bool → ℕ → ℕ → ℕ → Bound
bound_of false against favour rank = record { by = 0; of = 0 }
bound_of true against favour rank = cond (ltb rank 16777216) (record { by = against * (rank + 1); of = favour }) (record { by = 1; of = 0 })

-- the key from which on a set that ties comes no earlier, where the worst so far has the last of all ranks
unfoldable pub tied_above : Bool → RankedSet → ℕ
tied_above false worst = 0
tied_above true worst = cond (ltb worst.rank (2 ^ 64 - 1)) 0 (65536 * order_of_ties worst.set)

-- one less than the figure of a rank of PR or RK, and at most this
unfoldable pub lesser_number : ℕ → ℕ → ℕ
lesser_number most rank = cond (ltb most (2 ^ 64 - 1 - rank)) most (2 ^ 64 - 1 - rank - 1)

-- the bound of RK, in half thousandths, at most twice 499
unfoldable pub lean_from : Bool → ℕ → ℕ
lean_from false rank = 998
lean_from true rank = 2 * lesser_number 499 rank

-- the bounds of the worst so far; a figure of PR is multiplied out up to 2^18 kN/m²
unfoldable pub bounds_of : Bool → Base → Worst → Bounds
bounds_of serves base worst =
    record {
      op = bound_of serves 1 100 worst.op.rank;
      om = bound_of serves 1 100 worst.om.rank;
      sl = bound_of serves 10 base.friction worst.sl.rank;
      whole = lesser_number 262144 worst.pr.rank * (base.width * base.width * base.length) / 1000000;
      part = lesser_number 262144 worst.pr.rank * (3 * base.length) / 1000;
      lean = lean_from base.rock worst.rk.rank;
      tied = later (later (tied_above serves worst.op) (tied_above serves worst.om)) (later (tied_above serves worst.sl) (tied_above base.rock worst.rk));
    }

-- PR is within its bounds: that of the rule for a base that is pressed whole, or of the one for a part
pub record PressedWithin (bounds : Bounds) (full n m : ℕ) : Type 0 where
  pub whole : 3 * m ≤ full → full + 3 * m ≤ bounds.whole
  pub part : full < 3 * m → 4000 * (n * n) ≤ bounds.part * (full - m)

-- a set is within the bounds
pub record Within (width : ℕ) (bounds : Bounds) (c : Carried) : Type 0 where
  pub n : 0 < over_zero c.n
  pub lean : 1000 * from_zero c.m ≤ bounds.lean * (over_zero c.n * width)
  pub press : PressedWithin bounds (over_zero c.n * width) (over_zero c.n) (from_zero c.m)
  pub sl : bounds.sl.by * from_zero c.h ≤ bounds.sl.of * over_zero c.n
  pub op : bounds.op.by * c.plus.overturning ≤ bounds.op.of * c.plus.resisting
  pub om : bounds.om.by * c.minus.overturning ≤ bounds.om.of * c.minus.resisting
  pub tied : bounds.tied ≤ c.key

-- bounds by which every product fits a word
pub record Fitting (bounds : Bounds) : Type 0 where
  pub op : (bounds.op.by ≤ 2 ^ 24) × (bounds.op.of ≤ 1000)
  pub om : (bounds.om.by ≤ 2 ^ 24) × (bounds.om.of ≤ 1000)
  pub sl : (bounds.sl.by ≤ 10 * 2 ^ 24) × (bounds.sl.of ≤ 1000)
  pub part : bounds.part ≤ 2 ^ 26
  pub lean : bounds.lean ≤ 998
