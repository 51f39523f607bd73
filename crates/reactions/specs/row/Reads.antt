-- Document 02, P6: "the output is a load row", in the job book's own sense.
use Rattle.std.specs.Prelude.{ℕ, ◌≡◌, List, [], ◌∷◌, ◌++◌}
use Rattle.csv_text.specs.rfc4180.Rfc4180.{Cell, Record, File}
use Rattle.block.specs.Fields.{line_end}
use Rattle.kinds.specs.Table.{role}
use Rattle.kinds.specs.declared.Role.TheVariants.{Load}
use Rattle.kinds.specs.ranges.Range.{Ranged}
use Rattle.rows.specs.Form.{BookRow, Form}
use Rattle.rows.specs.declared.keys.Keyed.{Keyed}

-- a text is a load row with its CRLF: its bytes before that are a record of RFC 4180, whose cells mean this key, kind and numbers, with an empty
-- note; it is read in no other way, and the cells mean no other row
pub record IsLoadRow (text : List ℕ) (keyed : Keyed) : Type 0 where
  pub row : List ℕ
  pub cells : List Cell
  pub closed : text ≡ row ++ line_end
  pub reads : Record row cells
  pub alone : (rows : List (List Cell)) → File text rows → rows ≡ cells ∷ []
  pub means : Form cells (record { keyed = keyed; note = [] })
  pub only : (b : BookRow) → Form cells b → b ≡ record { keyed = keyed; note = [] }
  pub load : role keyed.row.kind ≡ Load
  pub ranged : Ranged keyed.row.kind keyed.row.numbers
