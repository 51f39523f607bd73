-- The rows passed fit.
use Rattle.std.proofs.Common.{ℕ, ◌<◌}
use Rattle.sets.specs.Sets.{bit, row}
use Rattle.sets.specs.steps.Deciding.{RowFits}
use Rattle.sums.proofs.permitted.permitted.Given as goal

abbrev pub invariant-loop-i : goal.invariant-loop-i
invariant-loop-i l = (j : ℕ) → j < l.i → RowFits l.combination (row l.fn.loads j) l.set (bit l.set j)
