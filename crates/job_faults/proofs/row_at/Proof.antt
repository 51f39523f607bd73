-- Before the load rows stand B, S and C in this order; a load row stands as far behind them as it does among the load rows.
use borrow.Author.Rules.{rules}
use native.Mathlib.Omega.{arith}
use mathlib.Core.Path.{◌≡◌, refl, subst⁻¹}
use Prim.Native.Nat.{ℕ, ◌+◌, ◌-◌, ◌<◌}
use lib.ListN.{length}
use Rattle.kinds.specs.declared.Kind.TheVariants.{S, C}
use Rattle.jobs.specs.declared.Job.{Job}
use Rattle.answer.specs.Rules.{load_rows_of}
use Rattle.job_faults.specs.First.{StandsAt}
use Rattle.job_faults.specs.JobRows.{row_of, rows_in}
use Rattle.job_faults.specs.steps.Ahead.{ahead}
use Rattle.job_faults.proofs.Standing.{stands_first}
use Rattle.job_faults.proofs.Listing.{ahead_low, rows_split, first_few, scour_stands, clearance_stands, scour_ahead, clearance_ahead, ahead_stands}
use Rattle.job_faults.proofs.row_at.Statement.{statement}
use Rattle.job_faults.proofs.row_at.Tie as tie

whole : (c : tie.Start) → length c.args.job.loads ≡ 16
whole c = c.well_formed.0.1.1.1.1.1.1.1.1.0.1.0.1

ahead-of-requires : tie.Need-ahead_of-ahead-requires
ahead-of-requires c κs = search rules

returns : tie.Need-returns-then-place-lt1
unfolding StandsAt
returns c =
    let e : c.args.place ≡ 0 = omega (arith, c.if-place-lt1.true) in
    rw e refl

-- a load row
module _ (c : tie.After-loads-1) where
  abbrev asked : tie.After-ahead_of-ahead
  asked = c.before.before.before

  abbrev job : Job
  job = asked.args.job

  abbrev i : ℕ
  i = asked.args.place - asked.ahead_of-ahead.result

  behind : asked.args.place ≡ ahead job.stage + i
  behind = omega (arith, c.if-ahead-place.true, asked.ahead_of-ahead.ensures)

  there : i < length (load_rows_of job)
  there = omega (arith, behind, asked.requires, rows_split job)

  few : i < 16
  few = omega (arith, there, first_few job.loads job.count, whole asked.before)

mul-result : tie.Need-offset_bounds-loads-place
mul-result c = omega (arith, few c)

array-copy-out-result : tie.Need-bounds-loads-place
array-copy-out-result c = few c

returns-2 : tie.Need-returns-then-ahead-place
returns-2 c =
    let j = job c.before in
    ahead_stands j.stage j.base j.scour j.clearance (load_rows_of j) (i c.before) (asked c.before).before.args.place _ (behind c.before) (stands_first j.loads j.count (i c.before) _ (there c.before))

returns-3 : tie.Need-returns-then-place-lt2
returns-3 c =
    let job = c.args.job in
    let place = c.args.place in
    let e : place ≡ 1 = omega (arith, c.if-place-lt1.false, c.if-place-lt2.true) in
    let low : 1 < ahead job.stage = omega (arith, c.if-ahead-place.false, c.ahead_of-ahead.ensures) in
    subst⁻¹ (λ (k : ℕ). StandsAt (rows_in job) k (row_of S job.scour)) e (scour_stands job.stage job.base job.scour job.clearance (load_rows_of job) (scour_ahead job.stage low))

returns-4 : tie.Need-returns
returns-4 c =
    let job = c.args.job in
    let place = c.args.place in
    let low : 2 < ahead job.stage = omega (arith, c.if-ahead-place.false, c.if-place-lt2.false, c.ahead_of-ahead.ensures) in
    let e : place ≡ 2 = omega (arith, c.if-place-lt2.false, c.if-ahead-place.false, c.ahead_of-ahead.ensures, ahead_low job.stage) in
    subst⁻¹ (λ (k : ℕ). StandsAt (rows_in job) k (row_of C job.clearance)) e (clearance_stands job.stage job.base job.scour job.clearance (load_rows_of job) (clearance_ahead job.stage low))

pub row_at_spec : {M : Type 1} → statement M
row_at_spec = tie.close (tie.spec ahead-of-requires returns mul-result array-copy-out-result returns-2 returns-3 returns-4)
