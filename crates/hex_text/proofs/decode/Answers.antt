-- A turn reads one byte more, and at the end as many are read as fit.
use Rattle.std.proofs.Common.{◌≡◌, arith}
use Rattle.hex_text.proofs.Decoding.{reads_next, read_all}
use Rattle.hex_text.proofs.decode.Goals as goal

pub loop-i-preserved : goal.loop-i-preserved
loop-i-preserved c =
    let n = c.min-n.ensures in
    reads_next _ _ _ _ c.loop-i.invariant _ _ c.worth-high.ensures.value c.worth-low.ensures.value (omega arith) (omega arith)

pub returns-clause-decoded : goal.returns-clause-decoded
returns-clause-decoded c =
    let n = c.min-n.ensures in
    let done : c.loop-i.i ≡ c.min-n.result = let left = c.loop-i-test.false in let end = c.loop-i.auto.i-end in omega arith in
    rw (← done) ((read_all _ _ _ _ c.loop-i.invariant (omega arith)).0)
