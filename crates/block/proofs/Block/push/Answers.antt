-- A byte behind the text where there is room, and the block as it was where there is none.
use borrow.Author.Tests.{lt-ltb, le-ltb}
use Rattle.block.specs.Block.{pushed, puts}
use Rattle.block.proofs.Block.push.Goals as goal

pub returns-then-self-lt2048 : goal.returns-then-self-lt2048
unfolding pushed puts
returns-then-self-lt2048 c = simp (lt-ltb _ _ c.if-self-lt2048.true)

pub returns-else-self-lt2048 : goal.returns-else-self-lt2048
unfolding pushed puts
returns-else-self-lt2048 c = simp (le-ltb _ _ c.if-self-lt2048.false)
