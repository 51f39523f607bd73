-- The rows before the load rows, and these, of which there are at most 16.
use borrow.Author.Rules.{rules}
use native.Mathlib.Omega.{arith}
use mathlib.Core.Path.{◌≡◌, ap, ◌∙◌}
use Prim.Native.Nat.{ℕ, ◌+◌}
use lib.ListN.{length}
use Rattle.job_faults.proofs.Listing.{ahead_low, rows_many}
use Rattle.job_faults.proofs.row_count.Statement.{statement}
use Rattle.job_faults.proofs.row_count.Tie as tie

whole : (c : tie.Start) → length c.args.job.loads ≡ 16
whole c = c.well_formed.0.1.1.1.1.1.1.1.1.0.1.0.1

ahead-of-requires : tie.Need-ahead_of-ahead-requires
ahead-of-requires c κs = search rules

row-count-requires : tie.Need-row_count-requires
row-count-requires c κs = search rules

add-result : tie.Need-overflow_add-result
add-result c = omega (arith, c.ahead_of-ahead.ensures, ahead_low c.args.job.stage, c.row_count.ensures.1)

returns : tie.Need-returns
returns c =
    ap (λ (a : ℕ). a + c.row_count.result) c.ahead_of-ahead.ensures ∙ rows_many c.args.job c.row_count.result (whole c.before.before) c.row_count.ensures.0 c.row_count.ensures.1

pub row_count_spec : {M : Type 1} → statement M
row_count_spec = tie.close (tie.spec ahead-of-requires row-count-requires add-result returns)
