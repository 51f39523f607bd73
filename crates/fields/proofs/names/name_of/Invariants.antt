-- The letters passed are held, with zeros behind them.
use Rattle.std.proofs.Common.{length, ◌≤◌}
use Rattle.fields.proofs.names.Names.{Read}
use Rattle.fields.proofs.names.name_of.Given as goal

abbrev pub invariant-loop-i : goal.invariant-loop-i
invariant-loop-i l = record { some : 1 ≤ length l.content; few : length l.content ≤ 12; read : Read l.content l.bytes l.i }
