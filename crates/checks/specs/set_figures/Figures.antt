-- Document 01, Load sets: the figure that each check shows of a set, by the sums of the set; and 02, P7: whether it is exact.
use Rattle.std.specs.Prelude.{ℕ, nat_abs}
use Rattle.arithmetic.specs.rounding.Least.{RoundedUp, RoundedDown}
use Rattle.arithmetic.specs.rounding.Rounding.{Exactly}
use Rattle.arithmetic.specs.signed.Whole.{above}
use Rattle.sets.specs.declared.Loads.{Loads}
use Rattle.sums.specs.Totals.{N, H, M, plus, minus, resisting, overturning}
use Rattle.checks.specs.declared.Base.{Base}
use Rattle.checks.specs.declared.Check.{Check}
use Rattle.checks.specs.declared.Check.TheVariants.{OP, OM, SL, PR, RK}
use Rattle.checks.specs.declared.Figure.{Figure}
use Rattle.checks.specs.ranks.Figures.{TipsBy, SlidesBy, PressesBy, LeansBy}

-- the figure that a check has of a set, with quotients taken so
abbrev pub ShowsBy : (down up : ℕ → ℕ → ℕ → Type 0) → Check → Base → Loads → ℕ → Figure → Type 0
ShowsBy down up OP base loads set v = TipsBy down (resisting plus base.width loads set) (overturning plus base.width loads set) v
ShowsBy down up OM base loads set v = TipsBy down (resisting minus base.width loads set) (overturning minus base.width loads set) v
ShowsBy down up SL base loads set v = SlidesBy down base.friction (above (N loads set)) (nat_abs (H loads set)) v
ShowsBy down up PR base loads set v = PressesBy up base.width base.length (above (N loads set)) (nat_abs (M loads set)) v
ShowsBy down up RK base loads set v = LeansBy up base.width (above (N loads set)) (nat_abs (M loads set)) v

-- the figure that a check shows of a set
unfoldable pub Shows : Check → Base → Loads → ℕ → Figure → Type 0
Shows check base loads set v = ShowsBy RoundedDown RoundedUp check base loads set v

-- it is this figure exactly (02, P7): by the same rule, and nothing was rounded away
unfoldable pub ShowsExactly : Check → Base → Loads → ℕ → Figure → Type 0
ShowsExactly check base loads set v = ShowsBy Exactly Exactly check base loads set v
