-- The row reached last is the one sought, and it ends where its fifth cell does.
use Rattle.std.proofs.Common.{arith}
use Rattle.fills.proofs.lookup.Rows.{going_start, going_more, going_found}
use Rattle.fills.proofs.lookup.row_part.Goals as goal

pub loop-init : goal.loop-init
loop-init c = going_start c.requires

pub loop-preserved : goal.loop-preserved
loop-preserved c = going_more c.loop.invariant c.cells_at-at.ensures (λ e. let more = c.loop-test.true in omega arith)

pub returns : goal.returns
returns c = going_found c.loop.invariant c.cells_at-cells.ensures (let done = c.loop-test.false in let end = c.loop.auto.counter-end in omega arith)
