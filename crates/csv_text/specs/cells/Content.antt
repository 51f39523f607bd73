-- A cell of a row by its place: its content.
use Rattle.std.specs.Prelude.{ℕ, List, [], get_or}
use Rattle.csv_text.specs.rfc4180.Rfc4180.{Cell}

-- no field: what stands where a row has none
abbrev pub no_cell : Cell
no_cell = record { raw = []; content = [] }

-- the first being 0
abbrev pub content : List Cell → ℕ → List ℕ
content cs k = (get_or cs k no_cell).content
