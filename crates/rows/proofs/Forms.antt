-- The cells of a form by their places: so the cells of a row mean one row, and where a text has a reading a place in it has one answer.
use Prim.Native.Nat.{ℕ, zero, suc, ◌+◌, ◌≤◌}
use native.Mathlib.Omega.{arith}
use Rattle.std.specs.Prelude.{Option, Some, None}
use mathlib.Core.Path.{◌≡◌, refl, sym, ap, subst, ◌∙◌}
use mathlib.Core.List.{List, [], ◌∷◌}
use lib.ListN.{length, get_or, drop, drop_of_length-le}
use lib.Seq.{drop-cons}
use Rattle.csv_text.specs.rfc4180.Rfc4180.{Cell, File, Readable}
use Rattle.csv_text.specs.cells.Content.{no_cell}
use Rattle.csv_text.specs.cells.Standing.{raw}
use Rattle.csv_text.specs.cells.Content.{content}
use Rattle.csv_text.proofs.rfc4180.First.{first, some_row}
use Rattle.fields.specs.names.Names.{NameOf}
use Rattle.kinds.specs.Table.{columns, letters}
use Rattle.kinds.specs.declared.Columns.{Columns}
use Rattle.kinds.specs.declared.Kind.{Kind}
use Rattle.kinds.specs.declared.Numbers.{Numbers}
use Rattle.kinds.proofs.letters.Letters.{letters_one}
use Rattle.kinds.proofs.Answers.{means_one}
use Rattle.rows.specs.Form.{BookRow, Ten, cells_of, Six, Form}
use Rattle.rows.specs.Answer.{first_ten, RowGiven, SeenAt}
use Rattle.rows.specs.declared.keys.Keyed.{Keyed}
use Rattle.rows.specs.declared.RowRead.{RowRead}

-- so many cells from a place on
from : ℕ → ℕ → List Cell → List Cell
from zero k cs = []
from (suc n) k cs = get_or cs k no_cell ∷ from n (suc k) cs

all_from : (n k : ℕ) (cs : List Cell) → length cs ≡ k + n → drop k cs ≡ from n k cs
unfolding from
all_from zero k cs h = let l : length cs ≤ k = omega arith in drop_of_length-le cs l
all_from (suc n) k cs h = drop-cons cs k no_cell (omega arith) ∙ ap (λ (l : List Cell). get_or cs k no_cell ∷ l) (all_from n (suc k) cs (omega arith))

-- ten cells are the ten fields in their order
pub ten_cells : (cs : List Cell) → length cs ≡ 10 → cs ≡ cells_of (first_ten cs)
unfolding from
ten_cells cs h = all_from 10 0 cs h

-- the fields of a form are the row's first ten cells
module _ {cs : List Cell} {r : BookRow} (f : Form cs r) where
  pub form_length : length cs ≡ 10
  form_length = ap length f.are

  at_places : f.ten ≡ first_ten cs
  at_places = ap first_ten (sym f.are)

  pub member_is : NameOf (content cs 0) r.keyed.key.member
  member_is = subst (λ (t : Ten). NameOf t.member.content r.keyed.key.member) at_places f.member

  pub job_is : NameOf (content cs 1) r.keyed.key.job
  job_is = subst (λ (t : Ten). NameOf t.job.content r.keyed.key.job) at_places f.job

  pub kind_is : content cs 2 ≡ letters r.keyed.row.kind
  kind_is = subst (λ (t : Ten). t.kind.content ≡ letters r.keyed.row.kind) at_places f.kind

  pub numbers_are : Six (columns r.keyed.row.kind) (first_ten cs) r.keyed.row.numbers
  numbers_are = subst (λ (t : Ten). Six (columns r.keyed.row.kind) t r.keyed.row.numbers) at_places f.numbers

  pub note_is : r.note ≡ raw cs 9
  note_is = subst (λ (t : Ten). r.note ≡ t.note.raw) at_places f.note

six_one : (c : Columns) (t : Ten) (m n : Numbers) → Six c t m → Six c t n → m ≡ n
six_one c t m n p q =
    let a = means_one c.n1 t.n1.content m.n1 n.n1 p.n1 q.n1 in
    let b = means_one c.n2 t.n2.content m.n2 n.n2 p.n2 q.n2 in
    let d = means_one c.n3 t.n3.content m.n3 n.n3 p.n3 q.n3 in
    let e = means_one c.n4 t.n4.content m.n4 n.n4 p.n4 q.n4 in
    let f = means_one c.n5 t.n5.content m.n5 n.n5 p.n5 q.n5 in
    let g = means_one c.n6 t.n6.content m.n6 n.n6 p.n6 q.n6 in
    λ i. record { n1 = a i; n2 = b i; n3 = d i; n4 = e i; n5 = f i; n6 = g i }

pub form_one : {cs : List Cell} {a b : BookRow} → Form cs a → Form cs b → a ≡ b
form_one {cs} {a} {b} f g =
    let m = (member_is f).held ∙ sym (member_is g).held in
    let j = (job_is f).held ∙ sym (job_is g).held in
    let k = letters_one a.keyed.row.kind b.keyed.row.kind (sym (kind_is f) ∙ kind_is g) in
    let n = six_one (columns b.keyed.row.kind) (first_ten cs) a.keyed.row.numbers b.keyed.row.numbers (subst (λ (x : Kind). Six (columns x) (first_ten cs) a.keyed.row.numbers) k (numbers_are f)) (numbers_are g) in
    let t = note_is f ∙ sym (note_is g) in
    λ i. record { keyed = record { key = record { member = m i; job = j i }; row = record { kind = k i; numbers = n i } }; note = t i }

row_given_one : (cs : List Cell) (a b : Option Keyed) → RowGiven cs a → RowGiven cs b → a ≡ b
row_given_one cs (Some j) (Some k) p q = ap (λ (r : BookRow). Some r.keyed) (form_one p q)
row_given_one cs (Some j) None p q = absurd (q _ p)
row_given_one cs None (Some k) p q = absurd (p _ q)
row_given_one cs None None p q = refl

pub row_read_one : {s : List ℕ} {start : ℕ} (a b : RowRead) → Readable (drop start s) → SeenAt s start a → SeenAt s start b → a ≡ b
row_read_one {s} {start} a b w p q =
    let m = some_row (first w.reading) in
    let f : File (drop start s) (m.0 ∷ m.1) = subst (File (drop start s)) m.2 w.reading in
    let x = p m.0 m.1 f in
    let y = q m.0 m.1 f in
    let e = row_given_one m.0 a.row b.row x.means y.means in
    let n = x.behind ∙ sym y.behind in
    λ i. record { row = e i; next = n i }
