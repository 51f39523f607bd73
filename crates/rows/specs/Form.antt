-- Document 01, the job book: "Ten fields: member, job, kind, n1 to n6, note." What the cells of a row mean.
use Rattle.std.specs.Prelude.{ℕ, ◌≡◌, List, [], ◌∷◌}
use Rattle.csv_text.specs.rfc4180.Rfc4180.{Cell}
use Rattle.fields.specs.names.Names.{NameOf}
use Rattle.kinds.specs.Table.{columns, letters}
use Rattle.kinds.specs.Form.{Means}
use Rattle.kinds.specs.declared.Columns.{Columns}
use Rattle.kinds.specs.declared.Numbers.{Numbers}
use Rattle.rows.specs.declared.keys.Keyed.{Keyed}

-- a row as the book has it: with its key, and the stretch of its note, which is handed on and never interpreted
pub record BookRow : Type 0 where
  pub keyed : Keyed
  pub note : List ℕ

-- the ten fields
pub record Ten : Type 0 where
  pub member : Cell
  pub job : Cell
  pub kind : Cell
  pub n1 : Cell
  pub n2 : Cell
  pub n3 : Cell
  pub n4 : Cell
  pub n5 : Cell
  pub n6 : Cell
  pub note : Cell

-- as a row has them, in their order
abbrev pub cells_of : Ten → List Cell
cells_of t = t.member ∷ t.job ∷ t.kind ∷ t.n1 ∷ t.n2 ∷ t.n3 ∷ t.n4 ∷ t.n5 ∷ t.n6 ∷ t.note ∷ []

-- n1 to n6, each by its column
pub record Six (c : Columns) (t : Ten) (n : Numbers) : Type 0 where
  pub n1 : Means c.n1 t.n1.content n.n1
  pub n2 : Means c.n2 t.n2.content n.n2
  pub n3 : Means c.n3 t.n3.content n.n3
  pub n4 : Means c.n4 t.n4.content n.n4
  pub n5 : Means c.n5 t.n5.content n.n5
  pub n6 : Means c.n6 t.n6.content n.n6

-- the cells of a row, and the row that they mean
pub record Form (cs : List Cell) (r : BookRow) : Type 0 where
  pub ten : Ten
  pub are : cs ≡ cells_of ten
  pub member : NameOf ten.member.content r.keyed.key.member
  pub job : NameOf ten.job.content r.keyed.key.job
  pub kind : ten.kind.content ≡ letters r.keyed.row.kind
  pub numbers : Six (columns r.keyed.row.kind) ten r.keyed.row.numbers
  pub note : r.note ≡ ten.note.raw
