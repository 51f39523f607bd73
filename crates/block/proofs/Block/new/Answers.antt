-- The zeros are those of the blank block.
use mathlib.Core.Path.{refl}
use Rattle.block.specs.Block.{blank}
use Rattle.block.proofs.Block.new.Goals as goal

pub returns : goal.returns
unfolding blank
returns c = refl
