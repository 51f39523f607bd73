-- A row of the kind that a rule speaks of shows it as its test says, and a row of another kind does not.
use Rattle.std.proofs.Common.{◌≡◌, true, rules}
use Rattle.kinds.specs.declared.Kind.TheVariants.{C, E, W, G}
use Rattle.earth.specs.coefficients.Lent.{fill_of}
use Rattle.job_faults.proofs.rules.Telling.{clearance_shows, blank_shows, blank_not, below_shows, below_not, above_shows, above_not, type_shows, type_not}
use Rattle.job_faults.proofs.rules.shows.Goals as goal

pub returns-then-eq-3 : goal.returns-then-eq-3
returns-then-eq-3 c =
    let crossing : c.args.row.kind ≡ C = search rules in
    rw c.in-OverObstructed.is (clearance_shows c.args.job c.args.row true c.is_obstructed.result crossing c.is_obstructed.ensures)

pub returns-then-eq-4 : goal.returns-then-eq-4
returns-then-eq-4 c =
    let earth : c.args.row.kind ≡ E = search rules in
    rw c.in-NoFill.is (blank_shows (fill_of c.args.held) c.args.row c.is_blank.result earth c.is_blank.ensures)

pub returns-else-eq-4 : goal.returns-else-eq-4
returns-else-eq-4 c =
    let other : c.args.row.kind ≡ E → ⊥ = search rules in
    rw c.in-NoFill.is (rw c.if-eq-4.false (blank_not (fill_of c.args.held) c.args.row other))

pub returns-then-eq-5 : goal.returns-then-eq-5
returns-then-eq-5 c =
    let wet : c.args.row.kind ≡ W = search rules in
    rw c.in-UpperBelowLower.is (below_shows c.args.row true c.is_below.result wet c.is_below.ensures)

pub returns-else-eq-5 : goal.returns-else-eq-5
returns-else-eq-5 c =
    let other : c.args.row.kind ≡ W → ⊥ = search rules in
    rw c.in-UpperBelowLower.is (rw c.if-eq-5.false (below_not c.args.row other))

pub returns-then-eq-6 : goal.returns-then-eq-6
returns-then-eq-6 c =
    let laden : c.args.row.kind ≡ G = search rules in
    rw c.in-NotAbove.is (above_shows c.args.row true c.is_not_above.result laden c.is_not_above.ensures)

pub returns-else-eq-6 : goal.returns-else-eq-6
returns-else-eq-6 c =
    let other : c.args.row.kind ≡ G → ⊥ = search rules in
    rw c.in-NotAbove.is (rw c.if-eq-6.false (above_not c.args.row other))

pub returns-then-eq-7 : goal.returns-then-eq-7
returns-then-eq-7 c =
    let laden : c.args.row.kind ≡ G = search rules in
    rw c.in-TypeE.is (type_shows c.args.row true c.is_type_e.result laden c.is_type_e.ensures)

pub returns-else-eq-7 : goal.returns-else-eq-7
returns-else-eq-7 c =
    let other : c.args.row.kind ≡ G → ⊥ = search rules in
    rw c.in-TypeE.is (rw c.if-eq-7.false (type_not c.args.row other))
