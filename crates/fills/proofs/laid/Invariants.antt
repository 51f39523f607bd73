-- The loop keeps that the fills passed are laid over the values. A fill's words tell its member, soil and slope, so that those of this member are found.
use Rattle.fills.proofs.Laying.{Laying}
use Rattle.fills.proofs.laid.Given as goal

abbrev pub invariant-loop-fill : goal.invariant-loop-fill
invariant-loop-fill l = Laying l.fill-items l.key l.fill-index l.initial.held l.held
