-- What `number_at` and `empty_at` answer for a stretch of the book (document 01, the job book).
use Rattle.std.specs.Prelude.{ℕ, Option, Some, None, List}
use Rattle.csv_text.specs.rfc4180.Rfc4180.{Field}
use Rattle.fields.specs.declared.Entry.{Entry}

-- the stretch is a field, and its content has the form F, by which it is this entry
pub record EntryIn (F : List ℕ → Entry → Type 0) (raw : List ℕ) (e : Entry) : Type 0 where
  pub content : List ℕ
  pub field : Field raw content
  pub is : F content e

-- the answer for a stretch: its entry, or that it has none
abbrev pub EntryAt : (List ℕ → Entry → Type 0) → List ℕ → Option Entry → Type 0
EntryAt F raw (Some e) = EntryIn F raw e
EntryAt F raw None = (e : Entry) → EntryIn F raw e → ⊥
