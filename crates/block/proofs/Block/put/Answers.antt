-- A turn puts the byte that is next; in the end nothing is left.
use Rattle.block.proofs.Pages.{put_step, put_done}
use Rattle.block.proofs.Block.put.Goals as goal

pub loop-byte-preserved : goal.loop-byte-preserved
loop-byte-preserved c = put_step _ _ _ _ _ c.loop-byte-test.true c.loop-byte.invariant c.push.ensures

pub returns : goal.returns
returns c = put_done _ _ _ _ c.loop-byte-test.false c.loop-byte.invariant
