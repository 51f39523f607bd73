-- A field by its number: its row's cell one place before, or nothing where the row ends sooner.
use Prim.Native.Nat.{ℕ, zero, suc, ◌+◌, ◌-◌, ◌≤◌, ◌<◌}
use native.Mathlib.Decide.{dec_le}
use native.Mathlib.Omega.{arith}
use mathlib.Core.Path.{◌≡◌, refl, sym, ap, subst, ◌∙◌}
use mathlib.Core.List.{List, [], ◌∷◌}
use lib.ListN.{length, get_or, take, length-append, get_or-eq_default}
use lib.Seq.{length-take-le, split_at}
use Rattle.arithmetic.proofs.Cases.{by_cases}
use Rattle.csv_text.specs.rfc4180.Rfc4180.{Cell, File}
use Rattle.csv_text.specs.cells.Cells.{RowAt, CellAt}
use Rattle.csv_text.specs.cells.Content.{no_cell}
use Rattle.csv_text.specs.cells.Standing.{raw}
use Rattle.csv_text.specs.Nth.{Nth}
use Rattle.csv_text.specs.places.Places.{StartsAt, at_row, no_row, FieldIs, field, no_field}
use Rattle.csv_text.specs.declared.cells.Cells.{Cells}
use Rattle.csv_text.proofs.Lists.{heads}
use Rattle.csv_text.proofs.rfc4180.Unique.{file_unique}
use Rattle.csv_text.proofs.rfc4180.First as first
use Rattle.csv_text.proofs.rfc4180.Parts.{past}
use Rattle.csv_text.proofs.rfc4180.Sense.{empty_text}
use Rattle.csv_text.proofs.cells.Standing.{cell_raw}
use Rattle.csv_text.proofs.notes.Answers.{nth_one}
use Rattle.csv_text.proofs.places.Starts.{start_here, started}

-- a text's row by its number
pub row_one : {s : List ℕ} {n : ℕ} {rows others : List (List Cell)} {cs row : List Cell} → File s rows → Nth rows n cs → File s others → Nth others n row → cs ≡ row
row_one {n = n} {row = row} q w p v = nth_one w (subst (λ (l : List (List Cell)). Nth l n row) (file_unique p q refl) v)

nth_many : {A : Type 0} {xs : List A} {n : ℕ} {x : A} → Nth xs n x → (1 ≤ n) × (n ≤ length xs)
nth_many {x = x} w =
    let e = w.number in
    let l = ap length w.are ∙ length-append w.before (x ∷ w.behind) in
    omega arith

nth_cell : (cs : List Cell) (k : ℕ) → 1 ≤ k → k ≤ length cs → Nth cs k (get_or cs (k - 1) no_cell)
nth_cell cs k some l =
    let few : k - 1 < length cs = omega arith in
    let m : length (take (k - 1) cs) ≡ k - 1 = length-take-le (k - 1) cs (omega arith) in
    record { before = take (k - 1) cs; behind = _; are = split_at cs (k - 1) no_cell few; number = omega arith }

-- the one field of the empty text is empty
empty_cell : (j : ℕ) → [] ≡ raw (first.cell [] [] ∷ []) j
empty_cell zero = refl
empty_cell (suc j) = refl

module _ {s : List ℕ} {n k : ℕ} {r : List ℕ} where
  pub field_zero : k ≡ 0 → r ≡ [] → FieldIs s n k r
  field_zero e z = no_field (λ rows cs f q w v l. let h = (nth_many v).0 in omega arith) z

  field_many : (k ≤ 10 → ⊥) → r ≡ [] → FieldIs s n k r
  field_many m z = no_field (λ rows cs f q w v l. m l) z

  -- a field of a row that is there
  module _ {rows : List (List Cell)} {cs : List Cell} (q : File s rows) (w : Nth rows n cs) (some : 1 ≤ k) where
    field_by : k ≤ 10 → r ≡ raw cs (k - 1) → FieldIs s n k r
    field_by few e =
        by_cases (dec_le k (length cs)) (λ l. field q w (nth_cell cs k some l) few e)
        (λ l.
        no_field
        (λ others row f p v u z.
        let m = (nth_many u).1 in
        let same = ap length (row_one q w p v) in
        l (omega arith))
        (e ∙ ap (λ (x : Cell). x.raw) (get_or-eq_default cs no_cell (omega arith))))

  -- the stretch that `cell` gives
  pub field_found : {at : ℕ} {c : Cells} → StartsAt s n at → at < length s → RowAt s at c → {j : ℕ} → j + 1 ≡ k → CellAt s c j r → FieldIs s n k r
  field_found h l row {j} e a =
      let w = started h l in
      let m : j ≡ k - 1 = omega arith in
      by_cases (dec_le k 10)
      (λ few. field_by w.reading w.nth (omega arith) few (cell_raw (row _ _ w.here.file) j (omega arith) a ∙ ap (raw w.row) m))
      (λ m. field_many m (a.missing (λ st. let f = st.few in m (omega arith))))

  pub field_past : {at : ℕ} → StartsAt s n at → length s ≤ at → 1 ≤ k → r ≡ [] → FieldIs s n k r
  field_past (no_row m e) l some z = no_field (λ rows cs f q w v few. m rows cs q w) z
  field_past {at} (at_row {cs = cs} q w e) l some z =
      let here = (start_here q w (at_row q w e)).file in
      let only : cs ≡ first.cell [] [] ∷ [] = heads (empty_text _ (subst (λ (t : List ℕ). File t (cs ∷ w.behind)) (past s at l) here)) in
      by_cases (dec_le k 10) (λ few. field_by q w some few (z ∙ empty_cell (k - 1) ∙ ap (λ (x : List Cell). raw x (k - 1)) (sym only))) (λ m. field_many m z)
