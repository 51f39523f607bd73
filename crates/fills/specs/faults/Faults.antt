-- Where a refusal lies, 8: "too long; not RFC 4180, with its place; the first bad row: its number of fields, its first bad column, or the earlier
-- row of the same member, soil and slope." Stated of one fill book, the members' own or the common one.
use Rattle.std.specs.Prelude.{ℕ, ◌≤◌, ◌<◌, ◌≡◌, List, length, Option, Some, None}
use Rattle.arithmetic.specs.rounding.Least.{Least}
use Rattle.csv_text.specs.rfc4180.Rfc4180.{Cell}
use Rattle.csv_text.specs.Nth.{Nth}
use Rattle.csv_text.specs.cells.Content.{content}
use Rattle.csv_text.specs.strays.Strays.{TextSays}
use Rattle.csv_text.specs.declared.strays.TextFault.{TextFault}
use Rattle.fields.specs.declared.names.Name.{Name}
use Rattle.fills.specs.declared.fill_rows.Fill.{Fill}
use Rattle.fills.specs.declared.fill_rows.Whose.{Whose}
use Rattle.fills.specs.declared.faults.FillFault.{FillFault}
use Rattle.fills.specs.declared.faults.FillFault.TheVariants.{TooLong, Text, Count, Column, Twice}
use Rattle.fills.specs.fill_rows.Form.{MemberIs, UpTo, Form}
use Rattle.fills.specs.FillBook.{TextRows, Forms, SamePlace, Once, FillBook}

-- the column k of five, from 1, is outside its form or range; any note will do (Document 02, P4)
pub data WrongColumn (whose : Whose) (cs : List Cell) : ℕ → Type 0 where
  member : ((n : Name) → MemberIs whose (content cs 0) n → ⊥) → WrongColumn whose cs 1
  soil : ((n : ℕ) → UpTo 5 (content cs 1) n → ⊥) → WrongColumn whose cs 2
  slope : ((n : ℕ) → UpTo 5 (content cs 2) n → ⊥) → WrongColumn whose cs 3
  value : ((n : ℕ) → UpTo 40000 (content cs 3) n → ⊥) → WrongColumn whose cs 4

-- rows that a fill book may begin with, and their fills
pub record Begins (whose : Whose) (css : List (List Cell)) (fs : List Fill) : Type 0 where
  pub forms : Forms whose css fs
  pub once : Once fs

-- why the row n may not stand behind rows that mean these fills: a row and its fill have one place
pub data RowLies (whose : Whose) (fs : List Fill) (cs : List Cell) (n : ℕ) : FillFault → Type 0 where
  count : {m : ℕ} → m ≡ length cs → (m ≡ 5 → ⊥) → RowLies whose fs cs n (Count n m)
  column : {k : ℕ} → length cs ≡ 5 → Least (WrongColumn whose cs) k → RowLies whose fs cs n (Column n k)
  twice : {f earlier : Fill} {m : ℕ} → Form whose cs f → Nth fs m earlier → SamePlace earlier f → RowLies whose fs cs n (Twice n m)

-- where the refusal of a fill book lies, if it is refused
pub data FillLies (whose : Whose) (s : List ℕ) : Option FillFault → Type 0 where
  sound : {fs : List Fill} → FillBook whose s fs → FillLies whose s None
  too_long : 65536 < length s → FillLies whose s (Some TooLong)
  text : {fault : TextFault} → length s ≤ 65536 → TextSays s (Some fault) → FillLies whose s (Some (Text fault))
  row : {rows : List (List Cell)} {n : ℕ} {cs : List Cell} {fs : List Fill} {fault : FillFault} → length s ≤ 65536 → TextRows s rows
      → (at : Nth rows n cs) → Begins whose at.before fs → RowLies whose fs cs n fault → FillLies whose s (Some fault)
