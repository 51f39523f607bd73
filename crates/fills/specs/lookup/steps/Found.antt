-- What `row_part` and `find_row` answer: where a row of one book lies.
use Rattle.std.specs.Prelude.{ℕ, ◌+◌, ◌<◌, ◌≡◌, List, length, Option, Some, None, Result, Ok, Err}
use Rattle.csv_text.specs.rfc4180.Rfc4180.{Cell}
use Rattle.csv_text.specs.Nth.{Nth}
use Rattle.csv_text.specs.cells.Standing.{row_text, row_start}
use Rattle.fields.specs.declared.names.Name.{Name}
use Rattle.fills.specs.declared.fill_rows.Fill.{Fill}
use Rattle.fills.specs.declared.fill_rows.Whose.{Whose}
use Rattle.fills.specs.declared.lookup.Lies.{Lies}
use Rattle.fills.specs.declared.faults.FillFault.{FillFault}
use Rattle.fills.specs.FillBook.{FillBook}
use Rattle.fills.specs.Says.{Lacks}
use Rattle.fills.specs.faults.Faults.{FillLies}
use Rattle.fills.specs.lookup.Lookup.{RowFor}

-- a fill book that has none
pub record WithoutRow (of : Whose) (s : List ℕ) (member : Name) (soil slope : ℕ) : Type 0 where
  pub fills : List Fill
  pub book : FillBook of s fills
  pub lacks : Lacks fills member soil slope

abbrev pub FoundIs : Whose → List ℕ → Name → ℕ → ℕ → Result (Option Lies) FillFault → Type 0
FoundIs of s member soil slope (Ok (Some lies)) = RowFor of s member soil slope lies.from lies.to
FoundIs of s member soil slope (Ok None) = WithoutRow of s member soil slope
FoundIs of s member soil slope (Err fault) = FillLies of s (Some fault)

-- a fill book that has a row n, the first being 0
pub record HasRow (s : List ℕ) (n : ℕ) : Type 0 where
  pub of : Whose
  pub fills : List Fill
  pub book : FillBook of s fills
  pub more : n < length book.rows

-- where the row n lies, of whatever fill book the text is
abbrev pub PartIs : List ℕ → ℕ → Lies → Type 0
PartIs s n r = (of : Whose) (fs : List Fill) (b : FillBook of s fs) (row : List Cell) (at : Nth b.rows (n + 1) row)
    → (r.from ≡ row_start at.before) × (r.to ≡ r.from + length (row_text row))
