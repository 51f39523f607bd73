-- The part from `at` on has room for the block's text, which has at most 2,048 bytes, so it is written there whole.
use native.Mathlib.Omega.{arith}
use borrow.Author.Rules.{rules}
use Rattle.debtarush.proofs.Joining.{held_few, appended, no_room, ends_within}
use Rattle.debtarush.proofs.append.Goals as goal

pub overflow_add-result : goal.overflow_add-result
overflow_add-result c =
    omega (arith, ends_within _ _ c.args.out.now _ (omega (arith, held_few c.args.block (search rules))) c.in-Ok.is c.write_block.ensures)

pub returns-in-Ok : goal.returns-in-Ok
returns-in-Ok c = appended _ _ _ _ c.in-Ok.is c.write_block.ensures

pub returns-in-Err : goal.returns-in-Err
returns-in-Err c =
    absurd (no_room _ _ c.args.out.now _ (omega (arith, held_few c.args.block (search rules))) c.in-Err.is c.write_block.ensures)
