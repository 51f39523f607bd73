-- The sums of the rows passed.
use Rattle.std.proofs.Common.{◌≡◌}
use Rattle.sums.specs.steps.Sums.{sums_to}
use Rattle.sums.proofs.set_sums.sums_of.Given as goal

abbrev pub invariant-loop-i : goal.invariant-loop-i
invariant-loop-i l = l.sums ≡ sums_to l.width l.fn.loads l.set l.i
