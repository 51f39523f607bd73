-- What `plain_end` and `field_end` answer: where a field ends, and what follows it, in terms of RFC 4180 as `Rfc4180` states it.
use Rattle.std.specs.Prelude.{ℕ, Option, Some, None, ◌+◌, ◌≤◌, ◌≡◌, List, [], ◌∷◌, ◌++◌, length, drop}
use Rattle.csv_text.specs.Part.{part}
use Rattle.csv_text.specs.rfc4180.Rfc4180.{COMMA, CR, LF, Textdata, Plain, Field}
use Rattle.csv_text.specs.declared.field.Ended.{Ended}
use Rattle.csv_text.specs.declared.field.Ended.TheVariants.{Comma, Row, End}
use Rattle.csv_text.specs.steps.Closing.{FirstByte}

-- the longest plain stretch at a place ends at e
pub record PlainTo (s : List ℕ) (at e : ℕ) : Type 0 where
  pub from : at ≤ e
  pub within : e ≤ length s
  pub all : Plain (part at e s)
  pub halts : (b : ℕ) → Textdata b → FirstByte b (drop e s) → ⊥

-- a field stands from `at` to e
pub record FieldTo (s : List ℕ) (at e : ℕ) : Type 0 where
  pub from : at ≤ e
  pub within : e ≤ length s
  pub content : List ℕ
  pub field : Field (part at e s) content

-- what may follow a field: nothing, a comma or a CRLF
pub data Stop : List ℕ → Type 0 where
  at_end : Stop []
  at_comma : {t : List ℕ} → Stop (COMMA ∷ t)
  at_row : {t : List ℕ} → Stop (CR ∷ LF ∷ t)

-- every field at this place with an end behind it has that end where ours has it
abbrev pub Follows : List ℕ → ℕ → ℕ → Type 0
Follows s at e = (q d u : List ℕ) → Field q d → Stop u → drop at s ≡ q ++ u → drop e s ≡ u

-- the field at a place ends at e, and no field there ends elsewhere
pub record EndsAt (s : List ℕ) (at e : ℕ) : Type 0 where
  pub field : FieldTo s at e
  pub follows : Follows s at e

-- no field stands at a place that may be followed by what follows it
abbrev pub NoField : List ℕ → ℕ → Type 0
NoField s at = (r c t : List ℕ) → Field r c → Stop t → drop at s ≡ r ++ t → ⊥

abbrev pub EndIs : List ℕ → ℕ → Option ℕ → Type 0
EndIs s at (Some e) = EndsAt s at e
EndIs s at None = NoField s at

-- the field at a place, and what follows it; or no field stands there that may be followed by what follows it
abbrev pub FieldAt : List ℕ → ℕ → Option Ended → Type 0
FieldAt s at (Some (Comma e)) = FieldTo s at e × (drop e s ≡ COMMA ∷ drop (e + 1) s)
FieldAt s at (Some (Row e)) = FieldTo s at e × (drop e s ≡ CR ∷ LF ∷ drop (e + 2) s)
FieldAt s at (Some End) = FieldTo s at (length s)
FieldAt s at None = NoField s at
