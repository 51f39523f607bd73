-- Where a refusal lies: "11: the first row and column out of range, its value and the range." The columns of a row, each with its entry.
use Rattle.std.specs.Prelude.{ℕ, ◌+◌, ◌≡◌, List, [], ◌∷◌}
use Rattle.kinds.specs.declared.Columns.{Columns}
use Rattle.kinds.specs.declared.Numbers.{Numbers}
use Rattle.kinds.specs.declared.Row.{Row}
use Rattle.kinds.specs.Table.{columns}
use Rattle.kinds.specs.ranges.Range.{InRange}
use Rattle.job_faults.specs.declared.Out.{Out}
use Rattle.job_faults.specs.declared.figures.Filling.{Filling}
use Rattle.job_faults.specs.First.{First}

-- n1 to n6, each with its range
abbrev pub fillings : Columns → Numbers → List Filling
fillings c n =
    record { range = c.n1; entry = n.n1 } ∷ record { range = c.n2; entry = n.n2 } ∷ record { range = c.n3; entry = n.n3 } ∷ record { range = c.n4; entry = n.n4 } ∷ record { range = c.n5; entry = n.n5 } ∷ record { range = c.n6; entry = n.n6 } ∷ []

-- the first of a row's columns that is out of range; as the sheet counts them, n1 is column 4
pub record OutOf (row : Row) (out : Out) : Type 0 where
  pub nth : ℕ
  pub first : First (λ i filling. InRange filling.range filling.entry → ⊥) (fillings (columns row.kind) row.numbers) nth (record { range = out.range; entry = out.entry })
  pub counted : out.column ≡ nth + 3
  pub same : out.kind ≡ row.kind
