-- What is found of a cell's stretch holds of the cell's content: the stretch is a field, and a field has one content.
use Prim.Native.Nat.{ℕ, ◌<◌}
use native.Mathlib.Omega.{arith}
use mathlib.Core.Path.{◌≡◌, sym, subst, ◌∙◌}
use mathlib.Core.List.{List, ◌∷◌}
use lib.ListN.{drop}
use Rattle.csv_text.specs.rfc4180.Rfc4180.{Cell, Field, File}
use Rattle.csv_text.proofs.rfc4180.Unique.{content_unique}
use Rattle.csv_text.specs.cells.Cells.{RowAt, CellAt}
use Rattle.csv_text.specs.cells.Standing.{Standing}
use Rattle.csv_text.specs.cells.Content.{content}
use Rattle.csv_text.specs.declared.cells.Cells.{Cells}
use Rattle.csv_text.proofs.cells.Standing.{standing, cell_field}
use Rattle.fields.specs.names.Names.{NameOf}
use Rattle.fields.specs.names.NameAt.{NameAt}
use Rattle.fields.specs.Entries.{EntryAt}
use Rattle.fields.specs.declared.names.Name.{Name}
use Rattle.fields.specs.declared.Entry.{Entry}
use Rattle.kinds.specs.Table.{columns, letters}
use Rattle.kinds.specs.Form.{Means}
use Rattle.kinds.specs.letters.Form.{KindAt}
use Rattle.kinds.specs.declared.Column.{Column}
use Rattle.kinds.specs.declared.Columns.{Columns}
use Rattle.kinds.specs.declared.Kind.{Kind}
use Rattle.std.specs.Prelude.{Option, Some, None}
use Rattle.kinds.specs.declared.Numbers.{Numbers}
use Rattle.kinds.proofs.letters.Letters.{letters_one}
use Rattle.rows.specs.Form.{BookRow, Six, Form}
use Rattle.rows.specs.Answer.{first_ten, RowSeen}
use Rattle.rows.specs.steps.Numbers.{NumbersGiven, RowOf}
use Rattle.rows.specs.declared.keys.Keyed.{Keyed}
use Rattle.rows.proofs.Forms.{kind_is, numbers_are}

module _ {s : List ℕ} {c : Cells} {cs : List Cell} (t : Standing 10 s c cs) where
  -- a cell's stretch is a field of its content
  module _ (k : ℕ) (r : List ℕ) (h : k < 10) (a : CellAt s c k r) where
    is_field : Field r (content cs k)
    is_field = cell_field t (omega arith) k r h a

    -- so the content is what the stretch was found to be
    pub cell_name : (n : Name) → NameAt r (Some n) → NameOf (content cs k) n
    cell_name n p = subst (λ (l : List ℕ). NameOf l n) (content_unique p.field is_field) p.named

    pub cell_no_name : NameAt r None → (n : Name) → NameOf (content cs k) n → ⊥
    cell_no_name p n w = p n (record { content = content cs k; field = is_field; named = w })

    pub cell_kind : (kind : Kind) → KindAt r (Some kind) → content cs k ≡ letters kind
    cell_kind kind p = content_unique is_field p

    pub cell_no_kind : KindAt r None → (kind : Kind) → content cs k ≡ letters kind → ⊥
    cell_no_kind p kind e = p kind (subst (λ (l : List ℕ). Field r l) e is_field)

    module _ (column : Column) where
      pub cell_entry : (x : Entry) → EntryAt (Means column) r (Some x) → Means column (content cs k) x
      cell_entry x p = subst (λ (l : List ℕ). Means column l x) (content_unique p.field is_field) p.is

      pub cell_no_entry : EntryAt (Means column) r None → (x : Entry) → Means column (content cs k) x → ⊥
      cell_no_entry p x m = p x (record { content = content cs k; field = is_field; is = m })

-- one number that its column does not give leaves no six
pub no_six : (kind : Kind) {c : Columns} (cs : List Cell) {r : Option Numbers} → c ≡ columns kind → r ≡ None → ((m : Numbers) → Six c (first_ten cs) m → ⊥) → NumbersGiven r kind cs
no_six kind {c} cs {r} e f h = rw f (λ m w. h m (subst (λ (k : Columns). Six k (first_ten cs) m) (sym e) w))

-- numbers that the columns of the one kind do not give
pub no_numbers : (kind : Kind) (cs : List Cell) → content cs 2 ≡ letters kind → ((n : Numbers) → Six (columns kind) (first_ten cs) n → ⊥) → (q : BookRow) → Form cs q → ⊥
no_numbers kind cs e h q f =
    h q.keyed.row.numbers
    (subst (λ (k : Kind). Six (columns k) (first_ten cs) q.keyed.row.numbers) (letters_one q.keyed.row.kind kind (sym (kind_is f) ∙ e)) (numbers_are f))

module _ {s : List ℕ} {start : ℕ} {c : Cells} (h : RowAt s start c) (cs : List Cell) (css : List (List Cell)) (q : File (drop start s) (cs ∷ css)) where
  pub row_seen : (r : Option Keyed) → RowOf s c r → RowSeen s start cs css (record { row = r; next = c.next })
  row_seen r w =
      let i = h cs css q in
      record { means = w cs i.count (λ n. standing h cs css q (omega arith) n); behind = i.behind; on = i.on; rest = i.rest }
