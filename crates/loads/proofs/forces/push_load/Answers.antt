-- A push is toward +x alone, so no sign comes in, and there is no V.
use Rattle.std.proofs.Common.{refl}
use Rattle.arithmetic.specs.signed.Whole.{signed}
use Rattle.loads.proofs.forces.push_load.Goals as goal

pub returns : goal.returns
unfolding signed
returns c = (
  record { class = refl; phase = refl; train = refl },
  record { v = c.amount_of-none.ensures; x = c.amount_of-none.ensures; h = c.amount_of.ensures; turns = c.amount_of-2.ensures },
)
