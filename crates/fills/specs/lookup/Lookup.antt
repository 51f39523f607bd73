-- Document 02, P4: "A lookup hands back the matching row itself, still lying in whichever book holds it .. its CRLF is left out, and without a
-- match, or where a fill book is refused, the stretch is empty." An own row wins.
use Rattle.std.specs.Prelude.{ℕ, ◌+◌, ◌≡◌, List, [], length, Option, Some, None}
use Rattle.csv_text.specs.rfc4180.Rfc4180.{Cell}
use Rattle.csv_text.specs.Nth.{Nth}
use Rattle.csv_text.specs.Part.{part}
use Rattle.csv_text.specs.cells.Standing.{row_text, row_start}
use Rattle.fields.specs.names.Names.{NameOf, no_name}
use Rattle.fields.specs.declared.names.Name.{Name}
use Rattle.fills.specs.declared.fill_rows.Fill.{Fill}
use Rattle.fills.specs.declared.fill_rows.Whose.{Whose}
use Rattle.fills.specs.declared.fill_rows.Whose.TheVariants as whose
use Rattle.fills.specs.declared.lookup.Place.{Place}
use Rattle.fills.specs.declared.lookup.Place.TheVariants.{Own, Common}
use Rattle.fills.specs.fill_rows.Form.{Form}
use Rattle.fills.specs.FillBook.{FillBook}
use Rattle.fills.specs.Says.{Lacks, Accepted}

-- a row of a fill book with this member, soil and slope: it lies from one place to another, its CRLF left out
pub record RowFor (of : Whose) (s : List ℕ) (member : Name) (soil slope from to : ℕ) : Type 0 where
  pub fills : List Fill
  pub book : FillBook of s fills
  pub number : ℕ
  pub row : List Cell
  pub at : Nth book.rows number row
  pub value : ℕ
  pub means : Form of row (record { member = member; soil = soil; slope = slope; value = value })
  pub starts : from ≡ row_start at.before
  pub ends : to ≡ from + length (row_text row)

-- no own row: a member of no form has none
abbrev pub LacksOwn : List Fill → List ℕ → ℕ → ℕ → Type 0
LacksOwn owns member soil slope = (name : Name) → NameOf member name → Lacks owns name soil slope

-- where the row that counts for a member, soil and slope lies, if there is one and no book is refused
pub data PlaceIs (own common member : List ℕ) (soil slope : ℕ) (p : Option Place) : Type 0 where
  refused : (Accepted own common → ⊥) → p ≡ None → PlaceIs own common member soil slope p
  in_own : {name : Name} {from to : ℕ} → Accepted own common → NameOf member name → RowFor whose.Own own name soil slope from to → p ≡ Some (Own (record { from = from; to = to })) → PlaceIs own common member soil slope p
  in_common : {from to : ℕ} (books : Accepted own common) → LacksOwn books.owns member soil slope → RowFor whose.Common common no_name soil slope from to → p ≡ Some (Common (record { from = from; to = to }))
      → PlaceIs own common member soil slope p
  nowhere : (books : Accepted own common) → LacksOwn books.owns member soil slope → Lacks books.commons no_name soil slope → p ≡ None → PlaceIs own common member soil slope p

-- the stretch that lies at a place
abbrev pub stretch : List ℕ → List ℕ → Option Place → List ℕ
stretch own common (Some (Own lies)) = part lies.from lies.to own
stretch own common (Some (Common lies)) = part lies.from lies.to common
stretch own common None = []

-- the row that counts, as the stretch that it is
pub record RowIs (own common member : List ℕ) (soil slope : ℕ) (row : List ℕ) : Type 0 where
  pub place : Option Place
  pub lies : PlaceIs own common member soil slope place
  pub is : row ≡ stretch own common place
