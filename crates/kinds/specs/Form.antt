-- Document 01, the job book: the form of a row's numbers. "A field marked - must be empty; every other number must be filled."
use Rattle.std.specs.Prelude.{ℕ, List}
use Rattle.fields.specs.Numbers.{IsNumber, IsEmpty}
use Rattle.fields.specs.declared.Entry.{Entry}
use Rattle.kinds.specs.declared.Column.{Column}
use Rattle.kinds.specs.declared.Column.TheVariants.{Empty, Filled, Signed}

-- the content of a column's field, and the entry that it is
abbrev pub Means : Column → List ℕ → Entry → Type 0
Means Empty = IsEmpty
Means (Filled low high) = IsNumber
Means (Signed below above) = IsNumber
