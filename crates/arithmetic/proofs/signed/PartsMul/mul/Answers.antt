-- The products of small parts make the parts of the product.
use mathlib.Core.Path.{refl}
use Rattle.arithmetic.specs.signed.Parts.{times}
use Rattle.arithmetic.proofs.signed.PartsMul.mul.Goals as goal

pub returns : goal.returns
unfolding times
returns c = refl
