-- What `number_to`, `member_at` and `fill_of` answer.
use Rattle.std.specs.Prelude.{ℕ, ◌≡◌, List, length, Option, Some, None, Result, Ok, Err}
use Rattle.csv_text.specs.rfc4180.Rfc4180.{Cell, Field}
use Rattle.csv_text.specs.cells.Standing.{Standing}
use Rattle.csv_text.specs.declared.cells.Cells.{Cells}
use Rattle.fields.specs.declared.names.Name.{Name}
use Rattle.fills.specs.declared.fill_rows.Fill.{Fill}
use Rattle.fills.specs.declared.fill_rows.Whose.{Whose}
use Rattle.fills.specs.declared.faults.FillFault.{FillFault}
use Rattle.fills.specs.fill_rows.Form.{MemberIs, UpTo, Form}
use Rattle.fills.specs.faults.Faults.{RowLies}

-- the stretch is a field, and its content has the form F, by which it is this
pub record Holds {A : Type 0} (F : List ℕ → A → Type 0) (raw : List ℕ) (x : A) : Type 0 where
  pub content : List ℕ
  pub field : Field raw content
  pub is : F content x

-- what a stretch holds by the form F, or that it holds nothing
abbrev pub Given : {A : Type 0} → (List ℕ → A → Type 0) → List ℕ → Option A → Type 0
Given F raw (Some x) = Holds F raw x
Given F raw None = (x : _) → Holds F raw x → ⊥

abbrev pub NumberTo : ℕ → List ℕ → Option ℕ → Type 0
NumberTo bound = Given (UpTo bound)

abbrev pub MemberAt : Whose → List ℕ → Option Name → Type 0
MemberAt whose = Given (MemberIs whose)

-- the fill that the cells of the row n mean; or why it may stand behind no rows, whatever they mean
abbrev pub RowMeans : Whose → List Cell → ℕ → Result Fill FillFault → Type 0
RowMeans whose cs n (Ok fill) = Form whose cs fill
RowMeans whose cs n (Err fault) = (fs : List Fill) → RowLies whose fs cs n fault

-- of whatever cells are so many, and stand where these places say
abbrev pub MeantBy : Whose → List ℕ → Cells → ℕ → Result Fill FillFault → Type 0
MeantBy whose s c n r = (cs : List Cell) → c.count ≡ length cs → (c.count ≡ 5 → Standing 5 s c cs) → RowMeans whose cs n r
