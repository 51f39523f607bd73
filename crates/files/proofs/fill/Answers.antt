-- What a turn reads stands behind what was read before.
use Rattle.std.proofs.Common.{arith}
use Rattle.files.proofs.Reading.{consumes_on}
use Rattle.files.proofs.fill.Goals as goal

pub loop-len-preserved : goal.loop-len-preserved
loop-len-preserved g c =
    let read = c.in-Ok.ensures in (
      read.fits,
      consumes_on _ _ _ c.loop-len.buf c.read_at.new.buf c.loop-len.len c.in-Ok.n (omega (arith, read.fits)) read.front c.loop-len.invariant.1 read.ok,
    )
