-- The rows of a kind push one way, and no second answer meets the promises of `job_warnings` and `row_warnings`.
use mathlib.Core.Path.{◌≡◌, refl}
use mathlib.Core.Logic.{inl, inr}
use mathlib.Core.List.{List}
use Prim.Native.Nat.{ℕ}
use Rattle.arithmetic.proofs.Deciding.{decides_one}
use Rattle.kinds.specs.declared.Kind.{Kind}
use Rattle.kinds.specs.declared.Kind.TheVariants.{WL, SF}
use Rattle.kinds.specs.declared.Row.{Row}
use Rattle.std.specs.Prelude.{Option, Some, None}
use Rattle.warnings.specs.declared.Way.{Way}
use Rattle.warnings.specs.declared.Way.TheVariants.{Forward, Backward}
use Rattle.warnings.specs.declared.JobWarnings.{JobWarnings}
use Rattle.warnings.specs.declared.RowWarnings.{RowWarnings}
use Rattle.warnings.specs.Warnings.{Outside, Low, NoDead, WayIs, JobWarned, RowWarned}

pub one_way_one : (kind : Kind) (rows : List Row) (a b : Option Way) → WayIs kind rows a → WayIs kind rows b → a ≡ b
unfolding WayIs
one_way_one kind rows None None p q = refl
one_way_one kind rows None (Some Forward) (inl p) q = absurd (q.1 p.1)
one_way_one kind rows None (Some Forward) (inr p) q = absurd (p.0 q.0)
one_way_one kind rows None (Some Backward) (inl p) q = absurd (q.0 p.0)
one_way_one kind rows None (Some Backward) (inr p) q = absurd (p.1 q.1)
one_way_one kind rows (Some Forward) None p (inl q) = absurd (p.1 q.1)
one_way_one kind rows (Some Forward) None p (inr q) = absurd (q.0 p.0)
one_way_one kind rows (Some Forward) (Some Forward) p q = refl
one_way_one kind rows (Some Forward) (Some Backward) p q = absurd (q.0 p.0)
one_way_one kind rows (Some Backward) None p (inl q) = absurd (p.0 q.0)
one_way_one kind rows (Some Backward) None p (inr q) = absurd (q.1 p.1)
one_way_one kind rows (Some Backward) (Some Forward) p q = absurd (p.0 q.0)
one_way_one kind rows (Some Backward) (Some Backward) p q = refl

pub job_warnings_one : (rows : List Row) (a b : JobWarnings) → JobWarned rows a → JobWarned rows b → a ≡ b
job_warnings_one rows a b p q =
    λ i. record {
      no_dead = decides_one (NoDead rows) a.no_dead b.no_dead p.no_dead q.no_dead i;
      wind = one_way_one WL rows a.wind b.wind p.wind q.wind i;
      earthquake = one_way_one SF rows a.earthquake b.earthquake p.earthquake q.earthquake i;
    }

pub row_warnings_one : (width : ℕ) (row : Row) (a b : RowWarnings) → RowWarned width row a → RowWarned width row b → a ≡ b
row_warnings_one width row a b p q =
    λ i. record {
      outside = decides_one (Outside width row) a.outside b.outside p.outside q.outside i;
      low = decides_one (Low row) a.low b.low p.low q.low i;
    }
