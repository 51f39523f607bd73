-- What the functions of `ranks` go by: the figures by the roundings of document 01, which `Shows` has too.
use Rattle.std.specs.Prelude.{ℕ}
use Rattle.arithmetic.specs.rounding.Least.{RoundedUp, RoundedDown}
use Rattle.checks.specs.declared.Figure.{Figure}
use Rattle.checks.specs.ranks.Figures.{TipsBy, SlidesBy, PressesBy, LeansBy}

unfoldable pub Tips : ℕ → ℕ → Figure → Type 0
Tips resisting overturning v = TipsBy RoundedDown resisting overturning v

unfoldable pub Slides : ℕ → ℕ → ℕ → Figure → Type 0
Slides friction n h v = SlidesBy RoundedDown friction n h v

unfoldable pub Presses : ℕ → ℕ → ℕ → ℕ → Figure → Type 0
Presses width length n m v = PressesBy RoundedUp width length n m v

unfoldable pub Leans : ℕ → ℕ → ℕ → Figure → Type 0
Leans width n m v = LeansBy RoundedUp width n m v
