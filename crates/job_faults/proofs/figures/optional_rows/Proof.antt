-- A row adds 0 or 1 to the optional ones, so they fit.
use borrow.Author.Rules.{rules}
use native.Mathlib.Nat.{le_antisymm}
use native.Mathlib.Omega.{arith}
use mathlib.Core.Path.{◌≡◌, refl, ap, ◌∙◌}
use Prim.Native.Nat.{ℕ, ◌-◌, ◌≤◌, ◌<◌}
use lib.ListN.{length, take}
use Rattle.kinds.specs.classes.Classes.{class_of, optional}
use Rattle.loads.specs.LoadRows.{optionals}
use Rattle.loads.proofs.Answering.{first_rows}
use Rattle.loads.proofs.Asking.{optional_low}
use Rattle.loads.proofs.FirstRows.{load_row}
use Rattle.job_faults.proofs.Standing.{stands_there}
use Rattle.job_faults.proofs.Listing.{optionals_next}
use Rattle.job_faults.proofs.figures.optional_rows.Statement.{statement}
use Rattle.job_faults.proofs.figures.optional_rows.Tie as tie

abbrev invariant-loop : tie.invariant-loop-i
invariant-loop count rows n optional₀ i₀ optional i = (i ≤ n) × (optional ≤ i) × (optional ≡ optionals (take i rows))

abbrev decreases-loop : tie.decreases-loop-i
decreases-loop count rows n optional₀ i₀ optional i = n - i

whole : (c : tie.Start invariant-loop decreases-loop) → length c.args.rows ≡ 16
whole c = search rules

row-count-requires : tie.Need-row_count-n-requires invariant-loop decreases-loop
row-count-requires c κs = search rules

loop-holds : tie.Need-loop-i-init invariant-loop decreases-loop
unfolding optionals
loop-holds c = (omega arith, omega arith, refl)

mul-row : tie.Need-offset_bounds-rows-i invariant-loop decreases-loop
mul-row c = omega (arith, c.row_count-n.ensures.1)

array-copy-out-row : tie.Need-bounds-rows-i invariant-loop decreases-loop
array-copy-out-row c = omega (arith, c.row_count-n.ensures.1)

class-of-requires : tie.Need-class_of-requires invariant-loop decreases-loop
class-of-requires c κs = search rules

optional-count-requires : tie.Need-optional_count-optional-requires invariant-loop decreases-loop
optional-count-requires c κs = search rules

-- the row that is looked at
module _ (c : tie.After-optional_count-optional invariant-loop decreases-loop) where
  abbrev turn : tie.In-loop-i invariant-loop decreases-loop
  turn = c.before.before.before

  few : turn.loop-i.i < 16
  few = omega (arith, turn.loop-i-test.true, turn.row_count-n.ensures.1)

  low : c.optional_count-optional.result ≤ 1
  low = omega (arith, c.optional_count-optional.ensures, optional_low c.class_of.result)

add-optional : tie.Need-overflow_add-optional invariant-loop decreases-loop
add-optional c = omega (arith, low c, few c, (turn c).loop-i.invariant.1)

add-i : tie.Need-overflow_add-i invariant-loop decreases-loop
add-i c = omega (arith, few c)

loop-less : tie.Need-loop-i-smaller invariant-loop decreases-loop
loop-less c = omega (arith, (turn c).loop-i-test.true)

loop-again : tie.Need-loop-i-preserved invariant-loop decreases-loop
unfolding load_row
loop-again c =
    let at = (turn c).before in
    let test = (turn c).loop-i-test.true in
    let rows = at.before.before.args.rows in
    let i = c.loop-i.i in
    let counts : c.optional_count-optional.result ≡ optional (class_of (load_row rows i).kind) = c.optional_count-optional.ensures ∙ ap optional c.class_of.ensures in
    let next = optionals_next rows i (load_row rows i) (stands_there rows i _ (omega (arith, whole at.before.before, few c))) in
    (omega (arith, test), omega (arith, low c, c.loop-i.invariant.1), omega (arith, counts, next, c.loop-i.invariant.2))

returns : tie.Need-returns invariant-loop decreases-loop
returns c =
    let rows = c.args.rows in
    let e = le_antisymm c.loop-i.invariant.0 c.loop-i-test.false in
    c.loop-i.invariant.2 ∙ ap (λ (k : ℕ). optionals (take k rows)) (e ∙ c.row_count-n.ensures.0) ∙ ap optionals (first_rows rows c.args.count (whole c.before.before.before))

pub optional_rows_spec : {M : Type 1} → statement M
optional_rows_spec = tie.close (tie.spec invariant-loop decreases-loop row-count-requires loop-holds mul-row array-copy-out-row class-of-requires optional-count-requires add-optional add-i loop-less loop-again returns)
