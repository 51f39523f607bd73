-- The leaders among the rows passed.
use Rattle.std.proofs.Common.{◌<◌}
use Rattle.worst.specs.steps.Trains.{LeadersIs}
use Rattle.worst.proofs.trains.leaders_of.Given as goal

abbrev pub invariant-loop-load : goal.invariant-loop-load
invariant-loop-load l = (l.leaders < 65536) × LeadersIs l.combination l.fn.loads l.load-index l.leaders
