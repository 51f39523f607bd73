-- The loop keeps that a row is reached, where it starts, and that the row sought is none of those passed.
use Rattle.fills.proofs.lookup.Rows.{Going}
use Rattle.fills.proofs.lookup.row_part.Given as goal

abbrev pub invariant-loop : goal.invariant-loop
invariant-loop l = Going l.s l.n l.counter l.at
