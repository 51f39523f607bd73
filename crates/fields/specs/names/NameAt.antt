-- What `name_of` and `name_at` answer for a stretch of the book (document 01, the job book).
use Rattle.std.specs.Prelude.{ℕ, Option, Some, None, List}
use Rattle.csv_text.specs.rfc4180.Rfc4180.{Field}
use Rattle.fields.specs.declared.names.Name.{Name}
use Rattle.fields.specs.names.Names.{IsName, NameOf}

-- the stretch is a field, and its content is this name
pub record NameIn (raw : List ℕ) (n : Name) : Type 0 where
  pub content : List ℕ
  pub field : Field raw content
  pub named : NameOf content n

-- the answer for a content: its name; or that it is none
abbrev pub ContentNamed : List ℕ → Option Name → Type 0
ContentNamed c (Some n) = NameOf c n
ContentNamed c None = IsName c → ⊥

-- the answer for a stretch: its name; or that it has none
abbrev pub NameAt : List ℕ → Option Name → Type 0
NameAt raw (Some n) = NameIn raw n
NameAt raw None = (m : Name) → NameIn raw m → ⊥
