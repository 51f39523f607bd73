-- Way by way the worst so far is that of all sets gone through.
use Rattle.std.proofs.Common.{◌-◌, ◌^◌}
use Rattle.weighing.specs.steps.Weighs.{Low, Words}
use Rattle.worst.proofs.Walking.{GoneThrough, SoFar}
use Rattle.worst.proofs.walk.Given as goal

abbrev pub invariant-loop-way : goal.invariant-loop-way
invariant-loop-way l = Low l.worst × Words l.worst × SoFar l.combination l.base l.fn.loads l.serves (GoneThrough l.combination l.fn.loads l.leaders l.way) (record { rank = 2 ^ 64 - 1; set = 0 }) l.worst
