-- A row that means no fill, or one that is listed, is where the refusal lies; any other is passed, and its fill held.
use Rattle.std.proofs.lemmas.Result.{err_from_is_err_and}
use Rattle.fills.proofs.Walking.{walk_start, walk_fault, small, walk_twice, walk_more, walk_last}
use Rattle.fills.proofs.reading.walk.Goals as goal

pub rows-init : goal.rows-init
rows-init c = walk_start c.requires.none c.requires.some c.requires.few c.requires.readable

pub returns-in_err-fill : goal.returns-in_err-fill
returns-in_err-fill c =
    let p = err_from_is_err_and c.from_residual.result c.from_residual.ensures.1 in
    rw (p.1, p.2) (walk_fault c.rows.invariant c.cells_at-cells.ensures c.in_err-fill.ensures)

pub fill_key-key-requires : goal.fill_key-key-requires
fill_key-key-requires c = let f = small c.rows.invariant c.cells_at-cells.ensures c.in_ok-fill.ensures in (f.member.few, f.soil.1, f.slope.1)

pub returns-in-Some : goal.returns-in-Some
returns-in-Some c = walk_twice c.rows.invariant c.cells_at-cells.ensures c.in_ok-fill.ensures c.fill_key-key.ensures c.in-Some.ensures

pub returns : goal.returns
returns c =
    rw c.push.ensures (walk_last c.rows.invariant c.cells_at-cells.ensures c.in_ok-fill.ensures c.fill_key-key.ensures c.in_default.ensures c.if-s-at.true)

pub rows-preserved : goal.rows-preserved
rows-preserved c =
    rw c.push.ensures (walk_more c.rows.invariant c.cells_at-cells.ensures c.in_ok-fill.ensures c.fill_key-key.ensures c.in_default.ensures c.if-s-at.false)
