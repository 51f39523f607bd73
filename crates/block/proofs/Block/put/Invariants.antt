-- What is left of the slice, put behind the block, gives what is wanted.
use mathlib.Core.Path.{◌≡◌}
use lib.ListN.{drop}
use Rattle.block.specs.Block.{puts}
use Rattle.block.proofs.Block.put.Given as goal

abbrev pub invariant-loop-byte : goal.invariant-loop-byte
invariant-loop-byte l = puts l.self (drop l.byte-index l.s) ≡ puts l.fn.self l.s
