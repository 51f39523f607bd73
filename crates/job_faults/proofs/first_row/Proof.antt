-- None of the rows passed shows the refusal, and how many of them are optional is known. A row that shows it is the first.
use borrow.Author.Rules.{rules}
use native.Mathlib.Decide.{dec_le}
use native.Mathlib.Omega.{arith}
use mathlib.Core.Path.{◌≡◌, refl, sym, ap, subst, ◌∙◌}
use mathlib.Core.List.{List}
use Prim.Native.Nat.{ℕ, ◌-◌, ◌≤◌, ◌<◌}
use lib.ListN.{length, take}
use Rattle.arithmetic.proofs.Cases.{by_cases}
use Rattle.arithmetic.proofs.Deciding.{decided, refuted}
use Rattle.earth.specs.coefficients.Coefficients.{Coefficient}
use Rattle.earth.specs.coefficients.Lent.{fill_of}
use Rattle.kinds.specs.classes.Classes.{class_of, optional}
use Rattle.kinds.specs.declared.Row.{Row}
use Rattle.jobs.specs.declared.Job.{Job}
use Rattle.loads.specs.LoadRows.{optionals}
use Rattle.loads.proofs.Asking.{optional_low}
use Rattle.job_faults.specs.First.{StandsAt}
use Rattle.job_faults.specs.JobRows.{rows_in}
use Rattle.job_faults.specs.Faults.{ShownAt}
use Rattle.job_faults.specs.rules.Shows.{Shows}
use Rattle.job_faults.proofs.Standing.{stands_one, stands_below, every_stands}
use Rattle.job_faults.proofs.Listing.{RowRanged, ranged_rows, rows_few, optionals_next}
use Rattle.job_faults.proofs.first_row.Statement.{statement}
use Rattle.job_faults.proofs.first_row.Tie as tie

abbrev invariant-loop : tie.invariant-loop-i
invariant-loop held job rule n optional₀ i₀ optional i =
    (i ≤ n) × (optional ≤ i) × (optional ≡ optionals (take i (rows_in job))) × ((j : ℕ) (r : Row) → j < i → StandsAt (rows_in job) j r → ShownAt (fill_of held) job rule j r → ⊥)

abbrev decreases-loop : tie.decreases-loop-i
decreases-loop held job rule n optional₀ i₀ optional i = n - i

whole : (c : tie.Start invariant-loop decreases-loop) → length c.args.job.loads ≡ 16
whole c = c.well_formed.1.0.1.1.1.1.1.1.1.1.0.1.0.1

row-count-requires : tie.Need-row_count-n-requires invariant-loop decreases-loop
row-count-requires c κs = search rules

loop-holds : tie.Need-loop-i-init invariant-loop decreases-loop
unfolding optionals
loop-holds c = (omega arith, omega arith, refl, λ j r h s x. absurd (omega arith))

row-at-requires : tie.Need-row_at-row-requires invariant-loop decreases-loop
row-at-requires c κs = omega (arith, c.loop-i-test.true, c.row_count-n.ensures)

shows-requires : tie.Need-shows-requires invariant-loop decreases-loop
shows-requires c κs =
    let job = c.args.job in
    λ n. record { job_ranged = c.requires n; row_ranged = every_stands RowRanged (rows_in job) (ranged_rows job (c.requires n)) c.loop-i.i c.row_at-row.ensures }

-- the row that is looked at, and whether it shows the refusal
module _ (c : tie.After-shows invariant-loop decreases-loop) where
  abbrev turn : tie.In-loop-i invariant-loop decreases-loop
  turn = c.before.before

  abbrev start : tie.Start invariant-loop decreases-loop
  start = turn.before.before.before

  abbrev fill : ℕ → ℕ → Coefficient
  fill = fill_of start.args.held

  abbrev job : Job
  job = start.args.job

  abbrev rows : List Row
  rows = rows_in job

  abbrev i : ℕ
  i = turn.loop-i.i

  abbrev passed : ℕ
  passed = turn.loop-i.optional

  abbrev row : Row
  row = c.row_at-row.result

  counted : passed ≡ optionals (take i rows)
  counted = turn.loop-i.invariant.2

  few : i < 19
  few = omega (arith, turn.loop-i-test.true, turn.row_count-n.ensures, rows_few job (whole start))

  -- another row at its place that shows it is it
  shown : (j : ℕ) (r : Row) → j ≡ i → StandsAt rows j r → ShownAt fill job start.args.rule j r → Shows fill job start.args.rule passed row
  shown j r e s x =
      let q = stands_one rows i (subst (λ (k : ℕ). StandsAt rows k r) e s) c.row_at-row.ensures in
      subst (Shows fill job start.args.rule passed) q (subst (λ (n : ℕ). Shows fill job start.args.rule n r) (ap (λ (k : ℕ). optionals (take k rows)) e ∙ sym counted) x)

add-t11 : tie.Need-overflow_add-result invariant-loop decreases-loop
add-t11 c = omega (arith, few c.before)

returns : tie.Need-returns-then-shows invariant-loop decreases-loop
returns c =
    record {
      place = i c.before;
      counted = refl;
      stands = c.row_at-row.ensures;
      shows = subst (λ (n : ℕ). Shows (fill c.before) (job c.before) (start c.before).args.rule n (row c.before)) (counted c.before) (decided c.shows.result c.if-shows.true c.shows.ensures);
      first = λ j b s x. by_cases (dec_le (i c.before) j) (λ k. omega arith) (λ k. absurd ((turn c.before).loop-i.invariant.3 j b (omega arith) s x));
    }

class-of-requires : tie.Need-class_of-requires invariant-loop decreases-loop
class-of-requires c κs = search rules

optional-count-requires : tie.Need-optional_count-optional-requires invariant-loop decreases-loop
optional-count-requires c κs = search rules

low : (c : tie.After-optional_count-optional invariant-loop decreases-loop) → c.optional_count-optional.result ≤ 1
low c = omega (arith, c.optional_count-optional.ensures, optional_low c.class_of.result)

add-optional : tie.Need-overflow_add-optional invariant-loop decreases-loop
add-optional c = omega (arith, low c, few c.before.before.before, (turn c.before.before.before).loop-i.invariant.1)

add-i : tie.Need-overflow_add-i invariant-loop decreases-loop
add-i c = omega (arith, few c.before.before.before)

loop-less : tie.Need-loop-i-smaller invariant-loop decreases-loop
loop-less c = omega (arith, (turn c.before.before.before).loop-i-test.true)

loop-again : tie.Need-loop-i-preserved invariant-loop decreases-loop
loop-again c =
    let inv = (turn c.before.before.before).loop-i.invariant in
    let counts : c.optional_count-optional.result ≡ optional (class_of (row c.before.before.before).kind) = c.optional_count-optional.ensures ∙ ap optional c.class_of.ensures in
    let next = optionals_next (rows c.before.before.before) (i c.before.before.before) (row c.before.before.before) c.row_at-row.ensures in (
      omega (arith, (turn c.before.before.before).loop-i-test.true),
      omega (arith, low c, inv.1),
      omega (arith, counts, next, counted c.before.before.before),
      λ j r h s x.
          by_cases (dec_le (i c.before.before.before) j) (λ k. refuted c.shows.result c.if-shows.false c.shows.ensures (shown c.before.before.before j r (omega arith) s x)) (λ k. inv.3 j r (omega arith) s x),
    )

returns-2 : tie.Need-returns invariant-loop decreases-loop
returns-2 c =
    let job = c.args.job in
    λ j r s x. c.loop-i.invariant.3 j r (omega (arith, stands_below (rows_in job) j r s, c.loop-i-test.false, c.row_count-n.ensures)) s x

pub first_row_spec : {M : Type 1} → statement M
first_row_spec = tie.close (tie.spec invariant-loop decreases-loop row-count-requires loop-holds row-at-requires shows-requires add-t11 returns class-of-requires optional-count-requires add-optional add-i loop-less loop-again returns-2)
