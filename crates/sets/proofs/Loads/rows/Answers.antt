-- The rows stand in front, so each has its place among all sixteen.
use Rattle.std.proofs.lemmas.List.{get_or-take}
use Rattle.sets.specs.Sets.{row}
use Rattle.sets.proofs.Loads.rows.Goals as goal

pub returns-clause-each : goal.returns-clause-each
unfolding row
returns-clause-each c = λ i h. get_or-take _ _ i _ h
