-- A row has one reason for having no form, or none: a row with a form has ten fields and no wrong column, and of several wrong columns one is the
-- first.
use Prim.Native.Nat.{ℕ}
use mathlib.Core.Path.{◌≡◌, refl, sym, ap, subst, ◌∙◌}
use mathlib.Core.List.{List, ◌∷◌}
use lib.ListN.{drop}
use Rattle.arithmetic.proofs.Cases.{impossible}
use Rattle.arithmetic.proofs.rounding.Laws.{least_one}
use Rattle.csv_text.specs.rfc4180.Rfc4180.{Cell, File, Readable}
use Rattle.csv_text.proofs.rfc4180.First.{first, some_row}
use Rattle.kinds.specs.Table.{columns}
use Rattle.kinds.specs.declared.Kind.{Kind}
use Rattle.kinds.proofs.letters.Letters.{letters_one}
use Rattle.rows.specs.Form.{BookRow, Six, Form}
use Rattle.rows.specs.Answer.{first_ten}
use Rattle.rows.specs.faults.Faults.{WrongColumn, member, job, kind, number, RowSays, sound, count, column}
use Rattle.rows.specs.faults.Place.{FaultAt}
use Rattle.rows.specs.declared.faults.RowFault.{RowFault}
use Rattle.rows.specs.declared.faults.RowFault.TheVariants as fault
use Rattle.std.specs.Prelude.{Option, Some, None}
use Rattle.rows.proofs.Forms.{form_length, member_is, job_is, kind_is, numbers_are}
use Rattle.rows.proofs.faults.Columns.{number_held}

-- a row with a form has no wrong column
pub form_right : {cs : List Cell} {r : BookRow} {k : ℕ} → Form cs r → WrongColumn cs k → ⊥
form_right {r = r} w (member e f) = f r.keyed.key.member (member_is w)
form_right {r = r} w (job e f) = f r.keyed.key.job (job_is w)
form_right {r = r} w (kind e f) = f r.keyed.row.kind (kind_is w)
form_right {cs} {r} w (number of {i} {column = c} e l at f) =
    let one : r.keyed.row.kind ≡ of = letters_one r.keyed.row.kind of (sym (kind_is w) ∙ l) in
    let six : Six (columns of) (first_ten cs) r.keyed.row.numbers = subst (λ (k : Kind). Six (columns k) (first_ten cs) r.keyed.row.numbers) one (numbers_are w) in
    let h = number_held (columns of) cs r.keyed.row.numbers six i c at in
    f h.entry h.means

-- one answer for each row
pub row_one : {cs : List Cell} {a b : Option RowFault} → RowSays cs a → RowSays cs b → a ≡ b
row_one (sound p f) (sound q g) = p ∙ sym q
row_one (sound p f) (count q n) = absurd (n (form_length f))
row_one (sound p f) (column q n l) = absurd (form_right f l.holds)
row_one (count p m) (sound q g) = absurd (m (form_length g))
row_one (count p m) (count q n) = p ∙ sym q
row_one (count p m) (column q n l) = absurd (m n)
row_one (column p m k) (sound q g) = absurd (form_right g k.holds)
row_one (column p m k) (count q n) = absurd (n m)
row_one (column p m k) (column q n l) = p ∙ ap (λ (i : ℕ). Some (fault.Column i)) (least_one k l) ∙ sym q

-- a sound row has a form
pub sound_form : {cs : List Cell} → RowSays cs None → (r : BookRow) × Form cs r
sound_form (sound {r} p f) = (r, f)
sound_form (count p n) = impossible cc
sound_form (column p n l) = impossible cc

-- and a row with a form is sound
pub form_sound : {cs : List Cell} {r : BookRow} {t : Option RowFault} → Form cs r → RowSays cs t → t ≡ None
form_sound f p = row_one p (sound refl f)

pub fault_formless : {cs : List Cell} {t : Option RowFault} → RowSays cs t → (t ≡ None → ⊥) → (r : BookRow) → Form cs r → ⊥
fault_formless p n r f = n (form_sound f p)

-- where a text has a reading, a place in it has one answer
pub fault_at_one : (s : List ℕ) (start : ℕ) {a b : Option RowFault} → Readable (drop start s) → FaultAt s start a → FaultAt s start b → a ≡ b
fault_at_one s start w p q =
    let m = some_row (first w.reading) in
    let f : File (drop start s) (m.0 ∷ m.1) = subst (File (drop start s)) m.2 w.reading in
    row_one (p m.0 m.1 f) (q m.0 m.1 f)
