-- Document 01, refusals of a job: 11, a number out of range.
use Rattle.std.specs.Prelude.{ℕ, ◌≤◌, ◌≡◌, true, false, ℤ}
use Rattle.arithmetic.specs.signed.Whole.{signed}
use Rattle.fields.specs.declared.Entry.{Entry}
use Rattle.kinds.specs.Table.{columns}
use Rattle.kinds.specs.declared.Kind.{Kind}
use Rattle.kinds.specs.declared.Column.{Column}
use Rattle.kinds.specs.declared.Column.TheVariants.{Empty, Filled, Signed}
use Rattle.kinds.specs.declared.Columns.{Columns}
use Rattle.kinds.specs.declared.Numbers.{Numbers}

-- the number that an entry is
abbrev pub value : Entry → ℤ
value e = signed e.minus e.size

-- a number from low to high
pub record Between (low high : ℕ) (e : Entry) : Type 0 where
  pub filled : e.filled ≡ true
  pub plain : e.minus ≡ false
  pub from : low ≤ e.size
  pub to : e.size ≤ high

-- a number from so far below zero to so far above
pub record Around (below above : ℕ) (e : Entry) : Type 0 where
  pub filled : e.filled ≡ true
  pub under : e.minus ≡ true → e.size ≤ below
  pub over : e.minus ≡ false → e.size ≤ above

-- an entry is in the range of its column; a column marked - has none
abbrev pub InRange : Column → Entry → Type 0
InRange Empty e = Unit {0}
InRange (Filled low high) e = Between low high e
InRange (Signed below above) e = Around below above e

-- every entry is in the range of its column
pub record InColumns (c : Columns) (n : Numbers) : Type 0 where
  pub n1 : InRange c.n1 n.n1
  pub n2 : InRange c.n2 n.n2
  pub n3 : InRange c.n3 n.n3
  pub n4 : InRange c.n4 n.n4
  pub n5 : InRange c.n5 n.n5
  pub n6 : InRange c.n6 n.n6

-- every number of a row of a kind is in its range
abbrev pub Ranged : Kind → Numbers → Type 0
Ranged k n = InColumns (columns k) n
