-- A text taken apart at its first field, with its rows: what stands behind the field has the rest of the rows, and the other way round.
use Prim.Native.Nat.{ℕ}
use mathlib.Core.Path.{◌≡◌, refl, sym, ap, ◌∙◌, subst}
use mathlib.Core.Logic.{◌↔◌}
use native.Mathlib.Omega.{arith}
use mathlib.Core.List.{List, [], ◌∷◌, ◌++◌, append_assoc, append-nil}
use Rattle.csv_text.specs.rfc4180.Rfc4180.{COMMA, CR, LF, none, Field, plain, Cell, Record, only, then, File, last, closed, next, Readable}
use Rattle.csv_text.specs.cells.Cells.{Rest, nothing, more}
use Rattle.csv_text.specs.steps.FieldAt.{Stop, at_end, at_comma, at_row}
use Rattle.csv_text.proofs.Lists.{nil_cons, heads, tails}
use Rattle.csv_text.proofs.rfc4180.Unique.{cells, field_unique, stop_halts}

-- a text's rows, and the four ways it goes on behind its first field
pub data First (s : List ℕ) : List (List Cell) → Type 0 where
  first_end : {f : Cell} → Field f.raw f.content → s ≡ f.raw → First s ((f ∷ []) ∷ [])
  first_comma : {f : Cell} {t : List ℕ} {r : List Cell} {rs : List (List Cell)} → Field f.raw f.content → s ≡ f.raw ++ COMMA ∷ t → File t (r ∷ rs) → First s ((f ∷ r) ∷ rs)
  first_closed : {f : Cell} → Field f.raw f.content → s ≡ f.raw ++ CR ∷ LF ∷ [] → First s ((f ∷ []) ∷ [])
  first_row : {f : Cell} {t : List ℕ} {rs : List (List Cell)} → Field f.raw f.content → s ≡ f.raw ++ CR ∷ LF ∷ t → (t ≡ [] → ⊥) → File t rs → First s ((f ∷ []) ∷ rs)

pub first : {s : List ℕ} {rs : List (List Cell)} → File s rs → First s rs
first (last (only h)) = first_end h refl
first (last (then h p)) = first_comma h refl (last p)
first (closed (only h)) = first_closed h refl
first (closed (then {f} {s} h p)) = first_comma h (append_assoc f.raw (COMMA ∷ s) _) (closed p)
first (next (only h) n q) = first_row h refl n q
first (next (then {f} {s} h p) n q) = first_comma h (append_assoc f.raw (COMMA ∷ s) _) (next p n q)

-- and back
pub put_comma : {f : Cell} {t : List ℕ} {r : List Cell} {rs : List (List Cell)} → Field f.raw f.content → File t (r ∷ rs) → File (f.raw ++ COMMA ∷ t) ((f ∷ r) ∷ rs)
put_comma h (last p) = last (then h p)
put_comma {f} h (closed {s} {r} p) = subst (λ (x : List ℕ). File x ((f ∷ r) ∷ [])) (append_assoc f.raw (COMMA ∷ s) _) (closed (then h p))
put_comma {f} h (next {s} {r} {rs} p n q) = subst (λ (x : List ℕ). File x ((f ∷ r) ∷ rs)) (append_assoc f.raw (COMMA ∷ s) _) (next (then h p) n q)

module _ {f : Cell} (h : Field f.raw f.content) where
  -- behind a field and its comma stand the rest of its row and the other rows
  pub record Commaed (t : List ℕ) (rows : List (List Cell)) : Type 0 where
    pub row : List Cell
    pub others : List (List Cell)
    pub are : rows ≡ (f ∷ row) ∷ others
    pub behind : File t (row ∷ others)

  comma_first : {t s : List ℕ} {rows : List (List Cell)} → First s rows → s ≡ f.raw ++ COMMA ∷ t → Commaed t rows
  comma_first (first_end {f = x} g e) k =
      absurd (nil_cons (field_unique g h (stop_halts at_end) (stop_halts at_comma) (append-nil x.raw ∙ sym e ∙ k)).2)
  comma_first (first_comma {r} {rs} g e q) k =
      let u = field_unique g h (stop_halts at_comma) (stop_halts at_comma) (sym e ∙ k) in
      record {
        row = r;
        others = rs;
        are = ap (λ (c : Cell). (c ∷ r) ∷ rs) (cells u.0 u.1);
        behind = subst (λ (x : List ℕ). File x (r ∷ rs)) (tails u.2) q;
      }
  comma_first (first_closed g e) k =
      let z : CR ≡ COMMA = heads (field_unique g h (stop_halts at_row) (stop_halts at_comma) (sym e ∙ k)).2 in
      absurd (omega arith)
  comma_first (first_row g e n q) k =
      let z : CR ≡ COMMA = heads (field_unique g h (stop_halts at_row) (stop_halts at_comma) (sym e ∙ k)).2 in
      absurd (omega arith)

  pub comma_rows : {t : List ℕ} {rows : List (List Cell)} → File (f.raw ++ COMMA ∷ t) rows → Commaed t rows
  comma_rows q = comma_first (first q) refl

  -- behind a field and its CRLF stand the other rows
  pub record Rowed (t : List ℕ) (rows : List (List Cell)) : Type 0 where
    pub others : List (List Cell)
    pub are : rows ≡ (f ∷ []) ∷ others
    pub behind : Rest t others

  row_first : {t s : List ℕ} {rows : List (List Cell)} → First s rows → s ≡ f.raw ++ CR ∷ LF ∷ t → Rowed t rows
  row_first (first_end {f = x} g e) k =
      absurd (nil_cons (field_unique g h (stop_halts at_end) (stop_halts at_row) (append-nil x.raw ∙ sym e ∙ k)).2)
  row_first (first_comma g e q) k =
      let z : COMMA ≡ CR = heads (field_unique g h (stop_halts at_comma) (stop_halts at_row) (sym e ∙ k)).2 in
      absurd (omega arith)
  row_first (first_closed g e) k =
      let u = field_unique g h (stop_halts at_row) (stop_halts at_row) (sym e ∙ k) in
      record {
        others = [];
        are = ap (λ (c : Cell). (c ∷ []) ∷ []) (cells u.0 u.1);
        behind = subst (λ (x : List ℕ). Rest x []) (tails (tails u.2)) nothing;
      }
  row_first (first_row {rs} g e n q) k =
      let u = field_unique g h (stop_halts at_row) (stop_halts at_row) (sym e ∙ k) in
      record {
        others = rs;
        are = ap (λ (c : Cell). (c ∷ []) ∷ rs) (cells u.0 u.1);
        behind = subst (λ (x : List ℕ). Rest x rs) (tails (tails u.2)) (more n q);
      }

  pub row_rows : {t : List ℕ} {rows : List (List Cell)} → File (f.raw ++ CR ∷ LF ∷ t) rows → Rowed t rows
  row_rows q = row_first (first q) refl

  -- a field with nothing behind it is the only one
  end_first : {s : List ℕ} {rows : List (List Cell)} → First s rows → s ≡ f.raw → rows ≡ (f ∷ []) ∷ []
  end_first (first_end {f = x} g e) k =
      let u = field_unique g h (stop_halts at_end) (stop_halts at_end) (append-nil x.raw ∙ sym e ∙ k ∙ sym (append-nil f.raw)) in
      ap (λ (c : Cell). (c ∷ []) ∷ []) (cells u.0 u.1)
  end_first (first_comma g e q) k =
      absurd (nil_cons (sym (field_unique g h (stop_halts at_comma) (stop_halts at_end) (sym e ∙ k ∙ sym (append-nil f.raw))).2))
  end_first (first_closed g e) k =
      absurd (nil_cons (sym (field_unique g h (stop_halts at_row) (stop_halts at_end) (sym e ∙ k ∙ sym (append-nil f.raw))).2))
  end_first (first_row g e n q) k =
      absurd (nil_cons (sym (field_unique g h (stop_halts at_row) (stop_halts at_end) (sym e ∙ k ∙ sym (append-nil f.raw))).2))

  pub end_rows : {rows : List (List Cell)} → File f.raw rows → rows ≡ (f ∷ []) ∷ []
  end_rows q = end_first (first q) refl

-- every text has a row
pub some_row : {t : List ℕ} {rows : List (List Cell)} → First t rows → (r : List Cell) × (rs : List (List Cell)) × (rows ≡ r ∷ rs)
some_row (first_end g e) = (_, _, refl)
some_row (first_comma g e q) = (_, _, refl)
some_row (first_closed g e) = (_, _, refl)
some_row (first_row g e n q) = (_, _, refl)

abbrev pub cell : List ℕ → List ℕ → Cell
cell r c = record { raw = r; content = c }

pub empty_readable : Readable []
empty_readable = record { rows = _; reading = last (only {f = cell [] []} (plain none)) }

-- what is left behind a row
pub rest_readable : {t : List ℕ} {rs : List (List Cell)} → Rest t rs → Readable t
rest_readable nothing = empty_readable
rest_readable (more n q) = record { rows = _; reading = q }

-- a row, a CRLF and a text
pub join : {s : List ℕ} {r : List Cell} (t : List ℕ) → Record s r → Readable t → Readable (s ++ CR ∷ LF ∷ t)
join [] p q = record { rows = _; reading = closed p }
join (b ∷ t) p q = record { rows = _; reading = next p (λ e. nil_cons (sym e)) q.reading }

module _ {r c : List ℕ} (h : Field r c) where
  pub end_readable : Readable r
  end_readable = record { rows = _; reading = last (only {f = cell r c} h) }

  back_comma : (t : List ℕ) → Readable t → Readable (r ++ COMMA ∷ t)
  back_comma t q =
      let m = some_row (first q.reading) in
      record { rows = _; reading = put_comma {f = cell r c} h (subst (File t) m.2 q.reading) }

  pub comma_readable : (t : List ℕ) → Readable (r ++ COMMA ∷ t) ↔ Readable t
  comma_readable t = (λ q. record { rows = _; reading = (comma_rows {f = cell r c} h q.reading).behind }, back_comma t)

  pub row_readable : (t : List ℕ) → Readable (r ++ CR ∷ LF ∷ t) ↔ Readable t
  row_readable t = (λ q. rest_readable (row_rows {f = cell r c} h q.reading).behind, join t (only {f = cell r c} h))

-- a readable text begins with a field, and behind it stands what may follow one
pub starts : {s : List ℕ} → ((r c t : List ℕ) → Field r c → Stop t → s ≡ r ++ t → ⊥) → Readable s → ⊥
starts {s} bad q = go (first q.reading)
  where
    go : {rs : List (List Cell)} → First s rs → ⊥
    go (first_end {f} g e) = bad f.raw _ [] g at_end (e ∙ sym (append-nil f.raw))
    go (first_comma g e p) = bad _ _ _ g at_comma e
    go (first_closed g e) = bad _ _ _ g at_row e
    go (first_row g e n p) = bad _ _ _ g at_row e
