-- Each field of a row is one.
use Prim.Native.Nat.{ℕ, zero, suc, ◌<◌}
use native.Mathlib.Nat.{le_of_suc-le-suc, not-suc-le-zero}
use mathlib.Core.List.{List, ◌∷◌}
use lib.ListN.{length, get_or}
use Rattle.csv_text.specs.rfc4180.Rfc4180.{Cell, Field, Record, only, then, File, last, closed, next}
use Rattle.csv_text.specs.cells.Content.{no_cell}

abbrev pub IsField : Cell → Type 0
IsField f = Field f.raw f.content

record_fields : {s : List ℕ} {fs : List Cell} → Record s fs → (k : ℕ) → k < length fs → IsField (get_or fs k no_cell)
record_fields (only h) zero k = h
record_fields (only h) (suc n) k = absurd (not-suc-le-zero (le_of_suc-le-suc k))
record_fields (then h p) zero k = h
record_fields (then h p) (suc n) k = record_fields p n (le_of_suc-le-suc k)

pub row_fields : {s : List ℕ} {fs : List Cell} {rs : List (List Cell)} → File s (fs ∷ rs) → (k : ℕ) → k < length fs → IsField (get_or fs k no_cell)
row_fields (last p) = record_fields p
row_fields (closed p) = record_fields p
row_fields (next p n q) = record_fields p
