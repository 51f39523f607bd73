-- The loop keeps that row n is reached, and that the row sought is none of those passed: so it is this one, a later one, or none at all.
-- n fits, since there are no more rows than bytes.
use Prim.Native.Nat.{◌-◌}
use native.Mathlib.Omega.{arith}
use mathlib.Core.Path.{refl}
use lib.ListN.{length}
use borrow.Author.Rules.{rules}
use Rattle.csv_text.proofs.notes.Passing.{Passing, passing_start, passing_on, passing_found, passing_end, passing_more}
use Rattle.csv_text.proofs.notes.note_at.Statement.{statement}
use Rattle.csv_text.proofs.notes.note_at.Tie as tie

abbrev invariant-loop : tie.invariant-loop-n
invariant-loop s row n₀ at₀ n at = Passing s row n at

abbrev decreases-loop : tie.decreases-loop-n
decreases-loop s row n₀ at₀ n at = length s - at

loop-holds : tie.Need-loop-n-init invariant-loop decreases-loop
loop-holds c = passing_start _ c.requires

cells-at-requires : tie.Need-cells_at-cells-requires invariant-loop decreases-loop
cells-at-requires c κs = (c.loop-n.invariant.reached.within, record { rows = _; reading = c.loop-n.invariant.reached.here })

cell-requires : tie.Need-cell-requires invariant-loop decreases-loop
cell-requires c κs = search rules

returns : tie.Need-returns-then-n-row invariant-loop decreases-loop
returns c = passing_found c.loop-n.invariant c.cells_at-cells.ensures c.if-n-row.true c.cell.ensures

sub-result : tie.Need-slice_bounds-result-count invariant-loop decreases-loop
sub-result c = search rules

part-result-start : tie.Need-slice_bounds-result-start invariant-loop decreases-loop
part-result-start c = search rules

part-result-end : tie.Need-slice_bounds-result-end invariant-loop decreases-loop
part-result-end c = search rules

returns-2 : tie.Need-returns-then-s-at invariant-loop decreases-loop
returns-2 c = passing_end c.loop-n.invariant c.cells_at-cells.ensures c.if-n-row.false c.if-s-at.true refl

add-n : tie.Need-overflow_add-n invariant-loop decreases-loop
add-n c =
    let reached = c.loop-n.invariant.reached in
    let few = reached.few in
    let within = reached.within in
    omega arith

loop-less : tie.Need-loop-n-smaller invariant-loop decreases-loop
loop-less c =
    let on = passing_on c.loop-n.invariant c.cells_at-cells.ensures c.if-s-at.false in
    let more = c.if-s-at.false in
    omega arith

loop-again : tie.Need-loop-n-preserved invariant-loop decreases-loop
loop-again c = passing_more c.loop-n.invariant c.cells_at-cells.ensures c.if-n-row.false c.if-s-at.false

pub note_at_spec : {M : Type 1} → statement M
note_at_spec = tie.close (tie.spec invariant-loop decreases-loop loop-holds cells-at-requires cell-requires returns sub-result part-result-start part-result-end returns-2 add-n loop-less loop-again)
