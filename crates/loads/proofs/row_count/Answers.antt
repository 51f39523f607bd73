-- The lesser of the count and 16.
use Rattle.std.proofs.Common.{arith}
use Rattle.loads.specs.steps.Asking.{row_count}
use Rattle.loads.proofs.row_count.Goals as goal

pub returns : goal.returns
unfolding row_count
returns c = (c.min.ensures, omega (arith, c.min.ensures))
