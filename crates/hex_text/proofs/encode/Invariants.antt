-- The buffer holds the digits of the bytes passed, and behind them what it held; each turn stores the two of one more.
use Rattle.std.proofs.Common.{◌*◌}
use Rattle.hex_text.specs.Hex.{encoded}
use Rattle.hex_text.proofs.Filling.{Filled}
use Rattle.hex_text.proofs.encode.Given as goal

abbrev pub invariant-loop-i : goal.invariant-loop-i
invariant-loop-i l = Filled (encoded l.bytes) l.fn.out l.out (2 * l.i)
