-- Both halves of a turn keep the bracket, and once it has closed it says the least.
use Rattle.std.proofs.Common.{◌+◌, ◌-◌, ◌/◌, arith}
use Rattle.scour.proofs.cubes.Cubes.{bracket_raised, bracket_lowered, bracket_closed}
use Rattle.scour.proofs.cubes.cube_up.Goals as goal

pub loop-low-preserved-then-middle-t : goal.loop-low-preserved-then-middle-t
loop-low-preserved-then-middle-t c =
    bracket_raised (c.loop-low.low + (c.loop-low.high - c.loop-low.low) / 2) c.loop-low.invariant (omega arith) c.if-middle-t.true

pub loop-low-preserved : goal.loop-low-preserved
loop-low-preserved c =
    bracket_lowered (c.loop-low.low + (c.loop-low.high - c.loop-low.low) / 2) c.loop-low.invariant (omega arith) (omega arith) c.if-middle-t.false

pub returns : goal.returns
returns c = bracket_closed c.loop-low.invariant c.loop-low-test.false
