-- The bytes passed are a numeral of this worth.
use Rattle.std.proofs.Common.{length, ◌≤◌}
use Rattle.fields.proofs.digits.Numerals.{DigitsRead}
use Rattle.fields.proofs.digits.digits_of.Given as goal

abbrev pub invariant-loop-i : goal.invariant-loop-i
invariant-loop-i l = record { some : 1 ≤ length l.content; few : length l.content ≤ 9; read : DigitsRead l.content l.i l.worth }
