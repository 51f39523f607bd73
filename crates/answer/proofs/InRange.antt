-- In a job that isn't refused every number of every row is in its range.
use Prim.Native.Nat.{ℕ}
use Rattle.kinds.specs.declared.Kind.TheVariants.{B, S, C}
use Rattle.kinds.proofs.ranges.Ranges.{ranged_unless}
use Rattle.jobs.specs.declared.Job.{Job}
use Rattle.earth.specs.coefficients.Coefficients.{Coefficient}
use Rattle.loads.proofs.InRange.{all_ranged}
use Rattle.answer.specs.Rules.{load_rows_of, AllInRange, out_of_range, Unrefused}

pub unrefused_ranged : {fill : ℕ → ℕ → Coefficient} {job : Job} → Unrefused fill job → AllInRange job
unrefused_ranged {job = job} u =
    let not_out : (AllInRange job → ⊥) → ⊥ = λ n. u 11 (out_of_range n) in
    record {
      rows = record {
        base = ranged_unless B _ (λ n. not_out (λ all. n all.rows.base));
        scour = λ has. ranged_unless S _ (λ n. not_out (λ all. n (all.rows.scour has)));
        clearance = λ has. ranged_unless C _ (λ n. not_out (λ all. n (all.rows.clearance has)));
      };
      loads = all_ranged (load_rows_of job) (λ n. not_out (λ all. n all.loads));
    }
