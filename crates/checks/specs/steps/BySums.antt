-- What `ranked_of` goes by: the figures of a set from the sums that the program holds.
use Rattle.std.specs.Prelude.{ℕ, ◌+◌, ◌-◌}
use Rattle.arithmetic.specs.rounding.Least.{RoundedUp, RoundedDown}
use Rattle.arithmetic.specs.rounding.Rounding.{Exactly}
use Rattle.arithmetic.specs.declared.signed.Parts.{Parts}
use Rattle.sums.specs.declared.Sums.{Sums}
use Rattle.checks.specs.declared.Base.{Base}
use Rattle.checks.specs.declared.Check.{Check}
use Rattle.checks.specs.declared.Check.TheVariants.{OP, OM, SL, PR, RK}
use Rattle.checks.specs.declared.Figure.{Figure}
use Rattle.checks.specs.ranks.Figures.{TipsBy, SlidesBy, PressesBy, LeansBy}

-- the distance of the two parts of a sum
unfoldable pub apart : Parts → ℕ
apart p = (p.above - p.below) + (p.below - p.above)

-- the figure that a check has of sums, with quotients taken so
abbrev pub BySums : (down up : ℕ → ℕ → ℕ → Type 0) → Check → Base → Sums → Figure → Type 0
BySums down up OP base sums v = TipsBy down sums.plus.resisting sums.plus.overturning v
BySums down up OM base sums v = TipsBy down sums.minus.resisting sums.minus.overturning v
BySums down up SL base sums v = SlidesBy down base.friction (sums.v.above - sums.v.below) (apart sums.h) v
BySums down up PR base sums v = PressesBy up base.width base.length (sums.v.above - sums.v.below) (apart sums.m) v
BySums down up RK base sums v = LeansBy up base.width (sums.v.above - sums.v.below) (apart sums.m) v

unfoldable pub ShowsBySums : Check → Base → Sums → Figure → Type 0
ShowsBySums check base sums v = BySums RoundedDown RoundedUp check base sums v

unfoldable pub ExactBySums : Check → Base → Sums → Figure → Type 0
ExactBySums check base sums v = BySums Exactly Exactly check base sums v
