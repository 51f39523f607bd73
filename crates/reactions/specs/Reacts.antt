-- Document 02, P6: a call for the load row of a record: "26 ..; 21, not exactly one record, or an unknown union case; 22, a number or a product is not
-- finite; 23, outside the row's ranges after rounding; 27, the lent buffer is shorter than the row; in that order, writing nothing."
use Rattle.std.specs.Prelude.{ℕ, ◌≤◌, ◌<◌, ◌≡◌, List, ◌++◌, length, drop, Result, Ok, Err}
use Rattle.doubles.specs.Doubles.{Nearest}
use Rattle.kinds.specs.declared.Kind.{Kind}
use Rattle.kinds.specs.ranges.Range.{Ranged}
use Rattle.rows.specs.declared.keys.Key.{Key}
use Rattle.reactions.specs.declared.xdr.Reaction.{Reaction}
use Rattle.reactions.specs.declared.RowRefusal.{RowRefusal}
use Rattle.reactions.specs.declared.RowRefusal.TheVariants.{NoRow, NoRecord, NotFinite, OutOfRange, TooShort}
use Rattle.reactions.specs.xdr.Record.{IsRecord}
use Rattle.reactions.specs.Force.{kilonewtons, AllFinite}
use Rattle.reactions.specs.row.Text.{Rounded, row_numbers, row_text}
use Rattle.reactions.specs.Asked.{Asked}

-- what a call is told: so many bytes written, or a refusal's number
pub data RowTold : Type 0 where
  written : ℕ → RowTold
  refused : ℕ → RowTold

abbrev pub row_told : Result ℕ RowRefusal → RowTold
row_told (Ok n) = written n
row_told (Err NoRow) = refused 26
row_told (Err NoRecord) = refused 21
row_told (Err NotFinite) = refused 22
row_told (Err OutOfRange) = refused 23
row_told (Err TooShort) = refused 27

-- "The result goes to the nearest whole kN or mm, halves away from zero"
pub record Rounds (r : Reaction) (q : Rounded) : Type 0 where
  pub v : Nearest (kilonewtons r.vertical) q.v
  pub x : Nearest r.x q.x
  pub h : Nearest (kilonewtons r.horizontal) q.h
  pub y : Nearest r.y q.y

-- the bytes of the row that a record gives with a key, a kind and a phase
pub record GivesRow (member job kind : List ℕ) (phase : ℕ) (sent bytes : List ℕ) : Type 0 where
  pub key : Key
  pub of : Kind
  pub reaction : Reaction
  pub rounded : Rounded
  pub asked : Asked member job kind phase key of
  pub is : IsRecord sent reaction
  pub finite : AllFinite reaction
  pub rounds : Rounds reaction rounded
  pub ranged : Ranged of (row_numbers rounded phase)
  pub text : bytes ≡ row_text member job kind (row_numbers rounded phase)

-- a call with a buffer that held `before` and holds `after` then
pub data Reacts (member job kind : List ℕ) (phase : ℕ) (sent before after : List ℕ) (t : RowTold) : Type 0 where
  no_row : ((key : Key) (of : Kind) → Asked member job kind phase key of → ⊥) → after ≡ before → t ≡ refused 26 → Reacts member job kind phase sent before after t
  no_record : {key : Key} {of : Kind} → Asked member job kind phase key of → ((r : Reaction) → IsRecord sent r → ⊥) → after ≡ before → t ≡ refused 21
      → Reacts member job kind phase sent before after t
  not_finite : {key : Key} {of : Kind} {r : Reaction} → Asked member job kind phase key of → IsRecord sent r → (AllFinite r → ⊥) → after ≡ before
      → t ≡ refused 22 → Reacts member job kind phase sent before after t
  out_of_range : {key : Key} {of : Kind} {r : Reaction} {q : Rounded} → Asked member job kind phase key of → IsRecord sent r → AllFinite r → Rounds r q
      → (Ranged of (row_numbers q phase) → ⊥) → after ≡ before → t ≡ refused 23 → Reacts member job kind phase sent before after t
  too_short : {row : List ℕ} → GivesRow member job kind phase sent row → length before < length row → after ≡ before → t ≡ refused 27
      → Reacts member job kind phase sent before after t
  row : {row : List ℕ} → GivesRow member job kind phase sent row → length row ≤ length before → after ≡ row ++ drop (length row) before
      → t ≡ written (length row) → Reacts member job kind phase sent before after t
