-- What `has_form` and `numbers_fault` answer, for ten cells that stand where the places say.
use Rattle.std.specs.Prelude.{ℕ, ◌<◌, ◌≡◌, Bool, Option, Some, None, List}
use Rattle.arithmetic.specs.decides.Decides.{Decides}
use Rattle.arithmetic.specs.rounding.Least.{Least}
use Rattle.csv_text.specs.rfc4180.Rfc4180.{Cell}
use Rattle.csv_text.specs.cells.Standing.{Standing}
use Rattle.csv_text.specs.cells.Content.{content}
use Rattle.csv_text.specs.declared.cells.Cells.{Cells}
use Rattle.fields.specs.declared.Entry.{Entry}
use Rattle.kinds.specs.Table.{columns, letters}
use Rattle.kinds.specs.Form.{Means}
use Rattle.kinds.specs.declared.Column.{Column}
use Rattle.kinds.specs.declared.Kind.{Kind}
use Rattle.kinds.specs.declared.Numbers.{Numbers}
use Rattle.rows.specs.Form.{Six}
use Rattle.rows.specs.Answer.{first_ten}
use Rattle.rows.specs.faults.Faults.{WrongColumn}
use Rattle.rows.specs.declared.faults.RowFault.{RowFault}
use Rattle.rows.specs.declared.faults.RowFault.TheVariants as fault

-- a content has the form of a column
pub record Held (column : Column) (c : List ℕ) : Type 0 where
  pub entry : Entry
  pub means : Means column c entry

abbrev pub FormAsked : List ℕ → Cells → ℕ → Column → Bool → Type 0
FormAsked s c k column r = (cs : List Cell) → Standing 10 s c cs → k < 10 → Decides r (Held column (content cs k))

-- no column before this one is wrong
abbrev pub Clear : List Cell → ℕ → Type 0
Clear cs k = (m : ℕ) → m < k → WrongColumn cs m → ⊥

-- the six numbers by their kind; or the first wrong column
pub data NumbersSay (cs : List Cell) (of : Kind) (t : Option RowFault) : Type 0 where
  held : {n : Numbers} → t ≡ None → Six (columns of) (first_ten cs) n → NumbersSay cs of t
  wrong : {k : ℕ} → t ≡ Some (fault.Column k) → Least (WrongColumn cs) k → NumbersSay cs of t

abbrev pub NumbersFault : List ℕ → Cells → Kind → Option RowFault → Type 0
NumbersFault s c of t = (cs : List Cell) → Standing 10 s c cs → content cs 2 ≡ letters of → Clear cs 4 → NumbersSay cs of t
