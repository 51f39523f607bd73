-- The block's text is its first bytes, at most 2,048; they are copied where the buffer has room for them.
use mathlib.Core.Path.{refl}
use borrow.Author.Rules.{rules}
use Rattle.buffer.proofs.Buffer.{too_short, written_whole}
use Rattle.buffer.proofs.write_block.Goals as goal

pub returns-then-out-len : goal.returns-then-out-len
returns-then-out-len c = too_short c.args.block _ (search rules) (search rules) _ _ c.if-out-len.true

pub returns : goal.returns
returns c = written_whole c.args.block _ (search rules) (search rules) _ _ _ c.if-out-len.false c.copy_from_slice.ensures.after refl
