-- The jobs are gone through from the last back: each is taken off with its rows, and where one has the key, what is left stands before its B row.
use Prim.Native.Nat.{ℕ, ◌+◌, ◌-◌}
use native.Mathlib.Omega.{arith}
use mathlib.Core.Path.{◌≡◌, sym, ap, subst, ◌∙◌}
use lib.ListN.{length, get_or}
use borrow.Author.Rules.{rules}
use Rattle.arithmetic.proofs.Deciding.{decided, refuted}
use Rattle.jobs.specs.declared.Job.{Job}
use Rattle.book.specs.JobBook.{rows_of}
use Rattle.book.specs.steps.Faulted.{UsedAmong}
use Rattle.book.proofs.faults.Earlier.{void_job, Looking, looking_start, Opened, opened, rows_off, found_used, look_on, none_left}
use Rattle.book.proofs.faults.earlier_row.Statement.{statement}
use Rattle.book.proofs.faults.earlier_row.Tie as tie

abbrev invariant-loop : tie.invariant-loop-left
invariant-loop n row key jobs left₀ at₀ left at = (w : UsedAmong jobs n row key) → Looking w left at

abbrev decreases-loop : tie.decreases-loop-left
decreases-loop n row key jobs left₀ at₀ left at = left

loop-holds : tie.Need-loop-left-init invariant-loop decreases-loop
loop-holds c = looking_start

sub-left : tie.Need-overflow_sub-left invariant-loop decreases-loop
sub-left c = search rules

mul-job : tie.Need-offset_bounds-jobs-left invariant-loop decreases-loop
mul-job c = let few = (c.loop-left.invariant c.requires).few in omega arith

array-copy-out-job : tie.Need-bounds-jobs-left invariant-loop decreases-loop
array-copy-out-job c = let few = (c.loop-left.invariant c.requires).few in omega arith

river-count-requires : tie.Need-river_count-river-requires invariant-loop decreases-loop
river-count-requires c κs = search rules

-- the last of the jobs that are left
module _ (c : tie.After-river_count-river invariant-loop decreases-loop) where
  abbrev found : Job
  found = get_or c.args.jobs (c.loop-left.left - 1) void_job

  abbrev Given : Type 0
  Given = UsedAmong c.args.jobs c.args.n c.args.row c.args.key

  open_at : (w : Given) → Opened w (c.loop-left.left - 1) c.loop-left.at found
  open_at w = opened w (c.loop-left.invariant w) (omega arith)

  -- its rows are taken off
  off : (w : Given) → c.loop-left.at ≡ length (rows_of (open_at w).front) + 1 + (1 + (c.river_count-river.result + found.count))
  off w = let e = c.river_count-river.ensures in rows_off w (open_at w) ∙ ap (λ (k : ℕ). length (rows_of (open_at w).front) + 1 + (1 + (k + found.count))) (sym e)

sub_at : tie.Need-overflow_sub-at invariant-loop decreases-loop
sub_at c = let e = off c.before c.requires in omega arith

sub-at-2 : tie.Need-overflow_sub-at-in-loop-left invariant-loop decreases-loop
sub-at-2 c = let e = off c.before c.requires in omega arith

sub-at-3 : tie.Need-overflow_sub-at-in-loop-left-2 invariant-loop decreases-loop
sub-at-3 c = let e = off c.before c.requires in omega arith

same-key-requires : tie.Need-same_key-requires invariant-loop decreases-loop
same-key-requires c κs = search rules

returns : tie.Need-returns-then-same_key invariant-loop decreases-loop
returns c =
    let keys = c.same_key in
    λ w.
    let e = off c.before.before.before.before w in
    found_used w (open_at c.before.before.before.before w) (decided keys.result c.if-same_key.true keys.ensures) _ (omega arith)

loop-less : tie.Need-loop-left-smaller invariant-loop decreases-loop
loop-less c = omega arith

loop-again : tie.Need-loop-left-preserved invariant-loop decreases-loop
loop-again c =
    let keys = c.same_key in
    λ w.
    let e = off c.before.before.before.before w in
    look_on w (open_at c.before.before.before.before w) (refuted keys.result c.if-same_key.false keys.ensures) _ (omega arith)

returns-2 : tie.Need-returns invariant-loop decreases-loop
returns-2 c =
    let none : c.loop-left.left ≡ 0 = omega arith in
    λ w. absurd (none_left w (subst (λ (i : ℕ). Looking w i c.loop-left.at) none (c.loop-left.invariant w)))

pub earlier_row_spec : {M : Type 1} → statement M
earlier_row_spec = tie.close (tie.spec invariant-loop decreases-loop loop-holds sub-left mul-job array-copy-out-job river-count-requires sub_at sub-at-2 sub-at-3 same-key-requires returns loop-less loop-again returns-2)
