-- The loop keeps the bracket: `high` reaches t, whatever reaches t is at least `low`, and `high` is at most 41,000, whose cube fits a word.
use Rattle.std.proofs.Common.{◌-◌}
use Rattle.scour.proofs.cubes.Cubes.{Bracket}
use Rattle.scour.proofs.cubes.cube_up.Given as goal

abbrev pub invariant-loop-low : goal.invariant-loop-low
invariant-loop-low l = Bracket l.t l.low l.high

abbrev pub decreases-loop-low : goal.decreases-loop-low
decreases-loop-low l = l.high - l.low
