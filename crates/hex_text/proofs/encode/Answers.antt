-- A turn stores the two digits of one byte more; at the end as many whole bytes are written as fit.
use Rattle.std.proofs.Common.{◌<◌, slice_index_or, arith}
use Rattle.hex_text.proofs.Encoding.{writes_next}
use Rattle.hex_text.proofs.encode.Goals as goal

pub loop-i-preserved : goal.loop-i-preserved
loop-i-preserved c =
    let byte : slice_index_or c.args.bytes.now c.loop-i.i 0 < 256 = omega (arith, c.type_inv.bytes c.loop-i.i) in
    let n = c.min-n.ensures in
    writes_next _ _ _ _ c.loop-i.invariant _ _ c.digit_of-high.ensures c.digit_of-low.ensures byte (omega arith) (omega arith)
