-- A row adds 0 or 1 to the optional ones, so they fit.
use Rattle.std.proofs.Common.{◌≤◌}
use Rattle.earth.specs.coefficients.Lent.{fill_of}
use Rattle.loads.proofs.Asking.{RowsAsked}
use Rattle.loads.proofs.asked_of.Given as goal

abbrev pub invariant-loop-i : goal.invariant-loop-i
invariant-loop-i l = (l.optional ≤ l.i) × RowsAsked (fill_of l.held) l.rows l.i l.first l.optional l.loads
