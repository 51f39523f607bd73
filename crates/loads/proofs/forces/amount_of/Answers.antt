-- Only zero loses its sign: the sign and that the size is not zero are the sign of that number.
use Rattle.loads.proofs.forces.Amounts.{amount_is}
use Rattle.loads.proofs.forces.amount_of.Goals as goal

pub returns : goal.returns
returns c = amount_is c.args.minus c.args.size
