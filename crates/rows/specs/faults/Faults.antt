-- Where a refusal lies, 3: "the number of fields where it is not ten; else the first column from the left that has not its form: member,
-- job, kind, then n1 to n6 by that kind."
use Rattle.std.specs.Prelude.{ℕ, ◌+◌, ◌≡◌, Option, Some, None, List, length}
use Rattle.arithmetic.specs.rounding.Least.{Least}
use Rattle.csv_text.specs.Nth.{Nth}
use Rattle.csv_text.specs.rfc4180.Rfc4180.{Cell}
use Rattle.csv_text.specs.cells.Content.{content}
use Rattle.fields.specs.names.Names.{NameOf}
use Rattle.fields.specs.declared.names.Name.{Name}
use Rattle.fields.specs.declared.Entry.{Entry}
use Rattle.kinds.specs.Table.{columns, letters, six_of}
use Rattle.kinds.specs.Form.{Means}
use Rattle.kinds.specs.declared.Column.{Column}
use Rattle.kinds.specs.declared.Kind.{Kind}
use Rattle.rows.specs.Form.{BookRow, Form}
use Rattle.rows.specs.declared.faults.RowFault.{RowFault}
use Rattle.rows.specs.declared.faults.RowFault.TheVariants as fault

-- the column k of ten, member being 1, has not its form; a number is judged by the row's kind, and where there is none it is not judged
pub data WrongColumn (cs : List Cell) (k : ℕ) : Type 0 where
  member : k ≡ 1 → ((n : Name) → NameOf (content cs 0) n → ⊥) → WrongColumn cs k
  job : k ≡ 2 → ((n : Name) → NameOf (content cs 1) n → ⊥) → WrongColumn cs k
  kind : k ≡ 3 → ((of : Kind) → content cs 2 ≡ letters of → ⊥) → WrongColumn cs k
  -- n1 to n6, the i-th of them
  number : (of : Kind) {i : ℕ} {column : Column} → k ≡ 3 + i → content cs 2 ≡ letters of → Nth (six_of (columns of)) i column → ((e : Entry) → Means column (content cs (2 + i)) e → ⊥) → WrongColumn cs k

-- why a row has no form, or that it has one
pub data RowSays (cs : List Cell) (t : Option RowFault) : Type 0 where
  sound : {r : BookRow} → t ≡ None → Form cs r → RowSays cs t
  count : t ≡ Some (fault.Count (length cs)) → (length cs ≡ 10 → ⊥) → RowSays cs t
  column : {k : ℕ} → t ≡ Some (fault.Column k) → length cs ≡ 10 → Least (WrongColumn cs) k → RowSays cs t
