-- What `figure_at` and the functions of `ranks` answer: the order of the figures as one number of 64 bits, the worst first; the program compares these.
use Rattle.std.specs.Prelude.{◌≡◌, Bool, ℕ, ◌-◌, ◌^◌, ◌<◌}
use Rattle.arithmetic.specs.decides.Decides.{Decides}
use Rattle.checks.specs.declared.Figure.{Figure}
use Rattle.checks.specs.declared.Figure.TheVariants.{Nothing, Number, Off}
use Rattle.checks.specs.Order.{Side, lowest, highest}

-- the figures that a side has: "none" where the lowest is the worst, "off" where the highest is
unfoldable pub HasRank : Side → Figure → Type 0
HasRank lowest Nothing = Unit {0}
HasRank lowest (Number v) = v < 2 ^ 64 - 1
HasRank lowest Off = ⊥
HasRank highest Nothing = ⊥
HasRank highest (Number v) = v < 2 ^ 64 - 1
HasRank highest Off = Unit {0}

unfoldable pub rank : Side → Figure → ℕ
rank lowest Nothing = 2 ^ 64 - 1
rank lowest (Number v) = v
rank lowest Off = 0
rank highest Nothing = 2 ^ 64 - 1
rank highest (Number v) = 2 ^ 64 - 1 - v
rank highest Off = 0

-- r is the rank of a figure with P
pub record Ranks (s : Side) (P : Figure → Type 0) (r : ℕ) : Type 0 where
  pub figure : Figure
  pub holds : P figure
  pub has_rank : HasRank s figure
  pub ranked : rank s figure ≡ r

-- and exact tells whether that figure has Q: that it is exact (02, P7)
pub record RanksTold (s : Side) (P Q : Figure → Type 0) (r : ℕ) (exact : Bool) : Type 0 where
  pub ranks : Ranks s P r
  pub told : Decides exact (Q ranks.figure)
