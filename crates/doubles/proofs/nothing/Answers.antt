-- The amount of 0 has no minus.
use mathlib.Core.Path.{refl}
use Rattle.arithmetic.specs.signed.Whole.{amount}
use Rattle.doubles.proofs.nothing.Goals as goal

pub returns : goal.returns
unfolding amount
returns c = refl
