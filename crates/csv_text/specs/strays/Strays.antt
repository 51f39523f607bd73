-- Where a refusal lies, 2: "the first byte with which the text begins no RFC 4180 text, though the bytes before it begin one; or, where there is none
-- such, the text ends inside quotes (the place of the quote that opened them), or with a CR outside quotes". Stated over the grammar of `Rfc4180`.
use Rattle.std.specs.Prelude.{ℕ, Option, Some, None, ◌≡◌, List, [], ◌∷◌, ◌++◌, length}
use Rattle.csv_text.specs.rfc4180.Rfc4180.{COMMA, CR, DQUOTE, LF, Plain, Escaped, Readable}
use Rattle.csv_text.specs.declared.strays.Spot.{Spot}
use Rattle.csv_text.specs.declared.strays.Spot.TheVariants as spots
use Rattle.csv_text.specs.declared.strays.TextFault.{TextFault}
use Rattle.csv_text.specs.declared.strays.TextFault.TheVariants as faults

-- some RFC 4180 text begins with these bytes
pub record Begun (s : List ℕ) : Type 0 where
  pub rest : List ℕ
  pub text : Readable (s ++ rest)

-- a field starts behind these bytes: at the text's start, behind a field's comma, behind a row's CRLF
pub data FieldStarts (p : List ℕ) : Type 0 where
  at_start : p ≡ [] → FieldStarts p
  behind_comma : {q : List ℕ} → Readable q → p ≡ q ++ COMMA ∷ [] → FieldStarts p
  behind_row : {q : List ℕ} → Readable q → p ≡ q ++ CR ∷ LF ∷ [] → FieldStarts p

-- what stands right before a place: a field starts there; plain text; an open quote, with what stands between quotes; a closed quoted field; a CR
-- outside quotes
pub data Before (p : List ℕ) : Spot → Type 0 where
  field_next : FieldStarts p → Before p spots.Start
  in_plain : {q r : List ℕ} → FieldStarts q → Plain r → (r ≡ [] → ⊥) → p ≡ q ++ r → Before p spots.Plain
  in_quotes : {q e c : List ℕ} → FieldStarts q → Escaped e c → p ≡ q ++ DQUOTE ∷ e → Before p spots.Inside
  behind_quotes : {q e c : List ℕ} → FieldStarts q → Escaped e c → p ≡ q ++ DQUOTE ∷ (e ++ DQUOTE ∷ []) → Before p spots.Closed
  behind_return : {q : List ℕ} → Readable q → p ≡ q ++ CR ∷ [] → Before p spots.Return

-- where a text stops being RFC 4180: nowhere; at its first stray byte, with what stands right before it; at the quote of which it ends inside; at the CR
-- with which it ends
pub data TextSays (s : List ℕ) : Option TextFault → Type 0 where
  sound : Readable s → TextSays s None
  stray : {before : List ℕ} (b : ℕ) (behind : List ℕ) {at : ℕ} {spot : Spot}
      → s ≡ before ++ b ∷ behind
      → at ≡ length before
      → Begun before
      → (Begun (before ++ b ∷ []) → ⊥)
      → Before before spot
      → TextSays s (Some (faults.Stray at spot))
  unclosed : {before inside content : List ℕ} {at : ℕ} → s ≡ before ++ DQUOTE ∷ inside → at ≡ length before → FieldStarts before → Escaped inside content → TextSays s (Some (faults.Unclosed at))
  ends_in_return : {before : List ℕ} {at : ℕ} → s ≡ before ++ CR ∷ [] → at ≡ length before → Readable before → TextSays s (Some (faults.Return at))
