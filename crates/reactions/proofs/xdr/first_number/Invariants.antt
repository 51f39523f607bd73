-- The bytes passed make the number so far.
use Rattle.reactions.proofs.xdr.Words.{NumberRead}
use Rattle.reactions.proofs.xdr.first_number.Given as goal

abbrev pub invariant-loop-byte : goal.invariant-loop-byte
invariant-loop-byte l = NumberRead l.s l.count l.byte-index l.number
