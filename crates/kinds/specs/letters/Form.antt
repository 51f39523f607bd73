-- Document 01, the job book: the kind that letters are, and that a field is.
use Rattle.std.specs.Prelude.{ℕ, ◌≡◌, Option, Some, None, List}
use Rattle.csv_text.specs.rfc4180.Rfc4180.{Field}
use Rattle.kinds.specs.Table.{letters}
use Rattle.kinds.specs.declared.Kind.{Kind}

-- the answer for a content: the kind that it is; or that it is none
abbrev pub KindIs : List ℕ → Option Kind → Type 0
KindIs c (Some k) = c ≡ letters k
KindIs c None = (k : Kind) → c ≡ letters k → ⊥

-- the answer for a stretch: the kind that it is, as a field; or that it is none
abbrev pub KindAt : List ℕ → Option Kind → Type 0
KindAt raw (Some k) = Field raw (letters k)
KindAt raw None = (k : Kind) → Field raw (letters k) → ⊥
