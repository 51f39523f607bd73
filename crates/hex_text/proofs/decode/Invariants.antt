-- The buffer holds the bytes read so far, and behind them what it held; each turn reads one more.
use Rattle.hex_text.specs.Hex.{decoded}
use Rattle.hex_text.proofs.Filling.{Filled}
use Rattle.hex_text.proofs.decode.Given as goal

abbrev pub invariant-loop-i : goal.invariant-loop-i
invariant-loop-i l = Filled (decoded l.hex) l.fn.bytes l.bytes l.i
