-- The loop keeps that row n is reached, where it starts, and that the row sought is none of those passed. n fits, since there are no more rows than bytes.
use Prim.Native.Nat.{◌-◌}
use native.Mathlib.Omega.{arith}
use mathlib.Core.Path.{refl}
use lib.ListN.{length}
use borrow.Author.Rules.{rules}
use Rattle.arithmetic.proofs.Deciding.{decided, refuted}
use Rattle.csv_text.specs.places.Places.{no_row}
use Rattle.csv_text.proofs.places.Finding.{Seeking, seeking_start, seeking_on, seeking_found, seeking_end, seeking_more}
use Rattle.csv_text.proofs.places.start_of.Statement.{statement}
use Rattle.csv_text.proofs.places.start_of.Tie as tie

abbrev invariant-loop : tie.invariant-loop-n
invariant-loop s row n₀ at₀ n at = Seeking s row n at

abbrev decreases-loop : tie.decreases-loop-n
decreases-loop s row n₀ at₀ n at = length s - at

is-csv-requires : tie.Need-is_csv-requires invariant-loop decreases-loop
is-csv-requires c κs = search rules

returns : tie.Need-returns-then-not-is_csv invariant-loop decreases-loop
returns c =
    let no = refuted c.is_csv.result c.if-not-is_csv.true c.is_csv.ensures in
    no_row (λ rows cs q w. no (record { rows = rows; reading = q })) refl

loop-holds : tie.Need-loop-n-init invariant-loop decreases-loop
loop-holds c = seeking_start _ (omega arith) (decided c.is_csv.result c.if-not-is_csv.false c.is_csv.ensures)

returns-2 : tie.Need-returns-then-n-row invariant-loop decreases-loop
returns-2 c = seeking_found c.loop-n.invariant c.if-n-row.true

cells-at-requires : tie.Need-cells_at-passed-requires invariant-loop decreases-loop
cells-at-requires c κs = let r = c.loop-n.invariant.reached in (r.within, record { rows = _; reading = r.here })

returns-3 : tie.Need-returns-then-s-at invariant-loop decreases-loop
returns-3 c = seeking_end c.loop-n.invariant c.cells_at-passed.ensures c.if-n-row.false c.if-s-at.true refl

add-n : tie.Need-overflow_add-n invariant-loop decreases-loop
add-n c =
    let reached = c.loop-n.invariant.reached in
    let few = reached.few in
    let within = reached.within in
    omega arith

loop-less : tie.Need-loop-n-smaller invariant-loop decreases-loop
loop-less c =
    let on = seeking_on c.loop-n.invariant c.cells_at-passed.ensures c.if-s-at.false in
    let more = c.if-s-at.false in
    omega arith

loop-again : tie.Need-loop-n-preserved invariant-loop decreases-loop
loop-again c = seeking_more c.loop-n.invariant c.cells_at-passed.ensures c.if-n-row.false c.if-s-at.false

pub start_of_spec : {M : Type 1} → statement M
start_of_spec = tie.close (tie.spec invariant-loop decreases-loop is-csv-requires returns loop-holds returns-2 cells-at-requires returns-3 add-n loop-less loop-again)
