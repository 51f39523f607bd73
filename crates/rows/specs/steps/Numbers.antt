-- What `numbers_of` and `row_of` answer, for ten cells that stand where the places say.
use Rattle.std.specs.Prelude.{ℕ, ◌≡◌, Option, Some, None, List, length}
use Rattle.csv_text.specs.rfc4180.Rfc4180.{Cell}
use Rattle.csv_text.specs.cells.Standing.{Standing}
use Rattle.csv_text.specs.declared.cells.Cells.{Cells}
use Rattle.kinds.specs.Table.{columns}
use Rattle.kinds.specs.declared.Kind.{Kind}
use Rattle.kinds.specs.declared.Numbers.{Numbers}
use Rattle.rows.specs.Form.{Six}
use Rattle.rows.specs.declared.keys.Keyed.{Keyed}
use Rattle.rows.specs.Answer.{first_ten, RowGiven}

-- the six numbers; or that the cells have none by the columns of the kind
abbrev pub NumbersGiven : Option Numbers → Kind → List Cell → Type 0
NumbersGiven (Some n) kind cs = Six (columns kind) (first_ten cs) n
NumbersGiven None kind cs = (m : Numbers) → Six (columns kind) (first_ten cs) m → ⊥

abbrev pub NumbersAre : List ℕ → Cells → Kind → Option Numbers → Type 0
NumbersAre s c kind r = (cs : List Cell) → Standing 10 s c cs → NumbersGiven r kind cs

-- the row, of cells that are so many and, if they are ten, stand where the places say
abbrev pub RowOf : List ℕ → Cells → Option Keyed → Type 0
RowOf s c r = (cs : List Cell) → c.count ≡ length cs → (c.count ≡ 10 → Standing 10 s c cs) → RowGiven cs r
