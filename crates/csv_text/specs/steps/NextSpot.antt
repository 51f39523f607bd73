-- What `ended`, `in_quotes`, `next_spot` and `field_of` answer: what stands behind a byte, by what stands right before it, and where the field that it belongs to starts.
use Rattle.std.specs.Prelude.{ℕ, Option, Some, None, ◌≡◌}
use Rattle.csv_text.specs.rfc4180.Rfc4180.{COMMA, CR, DQUOTE, LF, Textdata, Inside}
use Rattle.csv_text.specs.declared.strays.Spot.{Spot}
use Rattle.csv_text.specs.declared.strays.Spot.TheVariants as spots

-- behind a field: its comma, or the CR of its row's end
pub data Ends (b : ℕ) : Spot → Type 0 where
  by_comma : b ≡ COMMA → Ends b spots.Start
  by_return : b ≡ CR → Ends b spots.Return

-- the byte b may stand where the first spot is, and behind it is the second
pub data Takes (b : ℕ) : Spot → Spot → Type 0 where
  opens : b ≡ DQUOTE → Takes b spots.Start spots.Inside
  begins_plain : Textdata b → Takes b spots.Start spots.Plain
  ends_empty : {spot : Spot} → Ends b spot → Takes b spots.Start spot
  more_plain : Textdata b → Takes b spots.Plain spots.Plain
  ends_plain : {spot : Spot} → Ends b spot → Takes b spots.Plain spot
  more_inside : Inside b → Takes b spots.Inside spots.Inside
  closes : b ≡ DQUOTE → Takes b spots.Inside spots.Closed
  doubles : b ≡ DQUOTE → Takes b spots.Closed spots.Inside
  ends_quoted : {spot : Spot} → Ends b spot → Takes b spots.Closed spot
  ends_row : b ≡ LF → Takes b spots.Return spots.Start

abbrev pub EndedBy : ℕ → Option Spot → Type 0
EndedBy b (Some spot) = Ends b spot
EndedBy b None = (spot : Spot) → Ends b spot → ⊥

abbrev pub NextSpot : Spot → ℕ → Option Spot → Type 0
NextSpot spot b (Some next) = Takes b spot next
NextSpot spot b None = (next : Spot) → Takes b spot next → ⊥

-- a field starts at i, or started at `from`
abbrev pub field_start : Spot → ℕ → ℕ → ℕ
field_start spots.Start from i = i
field_start spots.Plain from i = from
field_start spots.Inside from i = from
field_start spots.Closed from i = from
field_start spots.Return from i = from
