-- Document 02, P6: "the output is a load row, no field quoted, note empty, CRLF at its end": the numbers of the row, and its bytes.
use Rattle.std.specs.Prelude.{ℕ, suc, cond, List, [], ◌∷◌, ◌++◌, ℤ, pos, negsuc}
use Rattle.block.specs.Decimal.{decimal}
use Rattle.block.specs.Fields.{field, line_end}
use Rattle.fields.specs.Numbers.{absent, positive, negative}
use Rattle.fields.specs.declared.Entry.{Entry}
use Rattle.kinds.specs.declared.Numbers.{Numbers}

-- V and H in kN, x and y in mm, to whole numbers
pub record Rounded : Type 0 where
  pub v : ℤ
  pub x : ℤ
  pub h : ℤ
  pub y : ℤ

-- a whole number as a field holds it: zero has no sign
abbrev pub entry : ℤ → Entry
entry (pos n) = positive n
entry (negsuc n) = negative (suc n)

-- the columns of the row: V, x, H, y, the phase, and nothing
abbrev pub row_numbers : Rounded → ℕ → Numbers
row_numbers q phase = record { n1 = entry q.v; n2 = entry q.x; n3 = entry q.h; n4 = entry q.y; n5 = positive phase; n6 = absent }

-- what stands in a number's field: its digits, with a minus before them or not; or nothing
abbrev pub entry_text : Entry → List ℕ
entry_text e = cond e.filled (cond e.minus (0x2D ∷ decimal e.size) (decimal e.size)) []

-- member, job, kind, n1 to n6, and an empty note
unfoldable pub fields_text : List ℕ → List ℕ → List ℕ → Numbers → List ℕ
fields_text member job kind n =
    member
    ++ (field job
    ++ (field kind
    ++ (field (entry_text n.n1)
    ++ (field (entry_text n.n2)
    ++ (field (entry_text n.n3)
    ++ (field (entry_text n.n4)
    ++ (field (entry_text n.n5)
    ++ (field (entry_text n.n6)
    ++ field []))))))))

unfoldable pub row_text : List ℕ → List ℕ → List ℕ → Numbers → List ℕ
row_text member job kind n = fields_text member job kind n ++ line_end
