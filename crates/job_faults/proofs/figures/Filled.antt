-- Where the first five columns are in range, and the sixth is, all are.
use native.Mathlib.Omega.{arith}
use mathlib.Core.Path.{◌≡◌, refl, subst, subst⁻¹}
use Prim.Native.Nat.{ℕ, ◌≤◌, ◌<◌}
use Rattle.fields.specs.declared.Entry.{Entry}
use Rattle.kinds.specs.declared.Column.{Column}
use Rattle.kinds.specs.declared.Columns.{Columns}
use Rattle.kinds.specs.declared.Numbers.{Numbers}
use Rattle.kinds.specs.ranges.Range.{InRange, InColumns}
use Rattle.job_faults.specs.declared.figures.Filling.{Filling}
use Rattle.job_faults.specs.First.{StandsAt}
use Rattle.job_faults.specs.Out.{fillings}

abbrev filling : Column → Entry → Filling
filling c e = record { range = c; entry = e }

-- a column's entry is in its range
abbrev pub FillingRanged : Filling → Type 0
FillingRanged f = InRange f.range f.entry

pub all_ranged : (c : Columns) (n : Numbers) (place : ℕ) (f : Filling) → 5 ≤ place → place ≤ 5 → ((i : ℕ) (g : Filling) → i < place → StandsAt (fillings c n) i g → FillingRanged g)
    → StandsAt (fillings c n) place f → FillingRanged f → InColumns c n
unfolding StandsAt
all_ranged c n place f h k before s r =
    let e : place ≡ 5 = omega arith in
    let last : filling c.n6 n.n6 ≡ f = subst (λ (j : ℕ). StandsAt (fillings c n) j f) e s in
    record {
      n1 = before 0 (filling c.n1 n.n1) (omega arith) refl;
      n2 = before 1 (filling c.n2 n.n2) (omega arith) refl;
      n3 = before 2 (filling c.n3 n.n3) (omega arith) refl;
      n4 = before 3 (filling c.n4 n.n4) (omega arith) refl;
      n5 = before 4 (filling c.n5 n.n5) (omega arith) refl;
      n6 = subst⁻¹ FillingRanged last r;
    }
