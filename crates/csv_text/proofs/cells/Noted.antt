-- The fields of a row that are passed, noted by their stretches.
use Prim.Native.Nat.{ℕ, zero, suc, ◌+◌, ◌-◌, ◌≤◌, ◌<◌, min}
use native.Mathlib.Nat.{le_refl, le_of_suc-le-suc}
use native.Mathlib.Decide.{ℕ_discrete}
use native.Mathlib.Numerals.{add-one}
use native.Mathlib.Omega.{arith}
use mathlib.Core.Path.{◌≡◌, refl, sym, ap, subst, ◌∙◌}
use mathlib.Core.List.{List, [], ◌∷◌, ◌++◌, append_assoc, append-nil}
use lib.ListN.{length, get_or, set, drop, replicate, length-append, length-set, length-drop}
use lib.Seq.{get_or-set_same, get_or-set_other, get_or_at, length-take-le}
use Rattle.arithmetic.proofs.Cases.{by_cases}
use Rattle.csv_text.specs.rfc4180.Rfc4180.{COMMA, CR, LF, Cell, File, Readable}
use Rattle.csv_text.specs.Part.{part}
use Rattle.csv_text.specs.steps.FieldAt.{FieldTo, FieldAt}
use Rattle.std.specs.Prelude.{Some}
use Rattle.csv_text.specs.declared.field.Ended.TheVariants.{Comma, Row, End}
use Rattle.csv_text.proofs.rfc4180.Parts.{part_rest, past}
use Rattle.csv_text.proofs.rfc4180.First.{cell, comma_rows, row_rows, end_rows}
use Rattle.csv_text.proofs.Steps.{step_comma, step_row}
use Rattle.csv_text.specs.declared.cells.Place.{Place}
use Rattle.csv_text.specs.declared.cells.Cells.{Cells}
use Rattle.csv_text.specs.cells.Cells.{no_place, Stretch, offset, RowIs, RowAt, Rest, nothing}
use Rattle.csv_text.specs.cells.Content.{no_cell}

pub offset_none : (fs : List Cell) → offset fs 0 ≡ 0
unfolding offset
offset_none [] = refl
offset_none (f ∷ fs) = refl

offset_suc : (fs : List Cell) (n : ℕ) → n < length fs → offset fs (suc n) ≡ offset fs n + length (get_or fs n no_cell).raw + 1
unfolding offset
offset_suc [] n h = absurd (omega arith)
offset_suc (f ∷ fs) zero h = omega (arith, offset_none fs)
offset_suc (f ∷ fs) (suc n) h = omega (arith, offset_suc fs n (le_of_suc-le-suc h))

pub offset_more : (fs : List Cell) (n : ℕ) → n < length fs → offset fs (n + 1) ≡ offset fs n + length (get_or fs n no_cell).raw + 1
offset_more fs n h = rw add-one (offset_suc fs n h)

blanks : (m k : ℕ) → get_or (replicate m no_place) k no_place ≡ no_place
blanks zero k = refl
blanks (suc m) zero = refl
blanks (suc m) (suc k) = blanks m k

-- the first n fields of fs, or ten of them, stand where the places say
abbrev pub Noted : List ℕ → ℕ → List Cell → ℕ → List Place → Type 0
Noted s start fs n ps = (k : ℕ) → k < 10 → k < n → Stretch s (start + offset fs k) (get_or ps k no_place).from (get_or ps k no_place).to (get_or fs k no_cell)

-- and nothing stands behind them
abbrev pub NothingBehind : ℕ → List Place → Type 0
NothingBehind n ps = (k : ℕ) → n ≤ k → get_or ps k no_place ≡ no_place

-- one more
module _ (s : List ℕ) (start : ℕ) (fs : List Cell) (n : ℕ) (ps : List Place) (ten : length ps ≡ 10) (p : Place) where
  module _ (h : Noted s start fs n ps) (st : Stretch s (start + offset fs n) p.from p.to (get_or fs n no_cell)) where
    pub noted : Noted s start fs (n + 1) (set ps n p)
    noted k h10 hn =
        by_cases (ℕ_discrete k n)
        (λ q.
        let f : get_or (set ps n p) k no_place ≡ p = ap (λ (i : ℕ). get_or (set ps n p) i no_place) q ∙ get_or-set_same ps n p no_place (omega arith) in
        rw (f, q) st)
        (λ q. rw (get_or-set_other ps n k p no_place q) (h k h10 (omega arith)))

  pub cleared : NothingBehind n ps → NothingBehind (n + 1) (set ps n p)
  cleared c k h = get_or-set_other ps n k p no_place (λ x. omega arith) ∙ c k (omega arith)

-- some fields of the row are passed, and the rest of it starts at `at`
pub record Seen (s : List ℕ) (start : ℕ) (fs : List Cell) (rs : List (List Cell)) (n at : ℕ) (ps : List Place) : Type 0 where
  pub seen : List Cell
  pub left : List Cell
  pub whole : fs ≡ seen ++ left
  pub many : length seen ≡ n
  pub here : File (drop at s) (left ∷ rs)
  pub place : at ≡ start + offset fs n
  pub stands : Noted s start fs n ps
  pub clear : NothingBehind n ps

pub seen_none : (s : List ℕ) (at : ℕ) (fs : List Cell) (rs : List (List Cell)) → File (drop at s) (fs ∷ rs) → Seen s at fs rs 0 at (replicate 10 no_place)
seen_none s at fs rs h = record {
  seen = [];
  left = fs;
  whole = refl;
  many = refl;
  here = h;
  place = rw offset_none (omega arith);
  stands = λ k h10 h0. absurd (omega arith);
  clear = λ k h0. blanks 10 k;
}

module _ {s : List ℕ} {start : ℕ} {fs : List Cell} {rs : List (List Cell)} {n at : ℕ} {ps : List Place} (ten : length ps ≡ 10) (p : Seen s start fs rs n at ps) where
  -- the field at `at` is the next of the row
  module _ {e : ℕ} (t : FieldTo s at e) where
    abbrev this : Cell
    this = cell (part at e s) t.content

    module _ (r : List Cell) (q : p.left ≡ this ∷ r) where
      nth : get_or fs n no_cell ≡ this
      nth = ap (λ (l : List Cell). get_or l n no_cell) (p.whole ∙ ap (λ (l : List Cell). p.seen ++ l) q) ∙ get_or_at p.seen this r no_cell n p.many

      ends : e ≡ at + length (get_or fs n no_cell).raw
      ends =
          let l : length (part at e s) ≡ e - at = length-take-le (e - at) (drop at s) (let w = t.within in rw length-drop (omega arith)) in
          let f = t.from in
          let g : length (get_or fs n no_cell).raw ≡ length (part at e s) = ap (λ (f : Cell). length f.raw) nth in
          omega arith

      stretch : Stretch s (start + offset fs n) at e (get_or fs n no_cell)
      stretch =
          let pl = p.place in
          let en = ends in
          record { starts = p.place; ends = omega arith; within = t.within; is = ap (λ (f : Cell). f.raw) (sym nth) }

      below : n < length fs
      below =
          let w = ap length (p.whole ∙ ap (λ (l : List Cell). p.seen ++ l) q) ∙ length-append p.seen (this ∷ r) in
          let m = p.many in
          omega arith

      onward : e + 1 ≡ start + offset fs (n + 1)
      onward =
          let pl = p.place in
          let en = ends in
          let o = offset_more fs n below in
          omega arith

  pub seen_more : (e : ℕ) → FieldAt s at (Some (Comma e)) → Seen s start fs rs (n + 1) (e + 1) (set ps n (record { from = at; to = e }))
  seen_more e h =
      let w : drop at s ≡ part at e s ++ COMMA ∷ drop (e + 1) s = part_rest s at e h.0.from ∙ ap (λ (l : List ℕ). part at e s ++ l) h.1 in
      let q = comma_rows {f = this h.0} h.0.field (subst (λ (l : List ℕ). File l (p.left ∷ rs)) w p.here) in
      let l : p.left ≡ this h.0 ∷ q.row = cc in
      let r : rs ≡ q.others = cc in
      record {
        seen = p.seen ++ this h.0 ∷ [];
        left = q.row;
        whole = p.whole ∙ ap (λ (x : List Cell). p.seen ++ x) l ∙ sym (append_assoc p.seen (this h.0 ∷ []) q.row);
        many = length-append p.seen (this h.0 ∷ []) ∙ ap (λ (x : ℕ). x + 1) p.many;
        here = subst (λ (x : List (List Cell)). File (drop (e + 1) s) (q.row ∷ x)) (sym r) q.behind;
        place = onward h.0 q.row l;
        stands = noted s start fs n ps ten (record { from = at; to = e }) p.stands (stretch h.0 q.row l);
        clear = cleared s start fs n ps ten (record { from = at; to = e }) p.clear;
      }

  -- the row's last field, with what follows it
  module _ (e next : ℕ) (t : FieldTo s at e) (l : p.left ≡ this t ∷ []) where
    counted : length fs ≡ n + 1
    counted =
        ap length (p.whole ∙ ap (λ (x : List Cell). p.seen ++ x) l) ∙ length-append p.seen (this t ∷ []) ∙ ap (λ (x : ℕ). x + 1) p.many

    last_field : start ≤ at → next ≡ min (length s) (e + 2) → Rest (drop next s) rs → RowIs s start fs rs (record { count = n + 1; places = set ps n (record { from = at; to = e }); next = next })
    last_field sa b r =
        let c = counted in
        let f = t.from in
        let o : e + 1 ≡ start + offset fs (length fs) = onward t [] l ∙ ap (λ (k : ℕ). start + offset fs k) (sym c) in
        record {
          count = sym c;
          stretches = λ k h10 hk. noted s start fs n ps ten (record { from = at; to = e }) p.stands (stretch t [] l) k h10 (omega arith);
          unused = λ k hk. cleared s start fs n ps ten (record { from = at; to = e }) p.clear k (omega arith);
          ten = length-set ps n (record { from = at; to = e }) ∙ ten;
          behind = omega arith;
          on = λ x. omega arith;
          rest = r;
        }

  -- closed by a CRLF
  pub seen_row : (e : ℕ) → start ≤ at → FieldAt s at (Some (Row e)) → RowIs s start fs rs (record { count = n + 1; places = set ps n (record { from = at; to = e }); next = e + 2 })
  seen_row e sa h =
      let w : drop at s ≡ part at e s ++ CR ∷ LF ∷ drop (e + 2) s = part_rest s at e h.0.from ∙ ap (λ (l : List ℕ). part at e s ++ l) h.1 in
      let q = row_rows {f = this h.0} h.0.field (subst (λ (l : List ℕ). File l (p.left ∷ rs)) w p.here) in
      let l : p.left ≡ this h.0 ∷ [] = cc in
      let r : rs ≡ q.others = cc in
      let m = (step_row s at e h).within in
      last_field e (e + 2) h.0 l sa (omega arith) (subst (Rest (drop (e + 2) s)) (sym r) q.behind)

  -- with nothing behind it
  pub seen_end : start ≤ at → FieldAt s at (Some End) → RowIs s start fs rs (record { count = n + 1; places = set ps n (record { from = at; to = length s }); next = length s })
  seen_end sa h =
      let e = length s in
      let w : drop at s ≡ part at e s = part_rest s at e h.from ∙ ap (λ (l : List ℕ). part at e s ++ l) (past s e (le_refl e)) ∙ append-nil (part at e s) in
      let q : p.left ∷ rs ≡ (this h ∷ []) ∷ [] = end_rows {f = this h} h.field (subst (λ (l : List ℕ). File l (p.left ∷ rs)) w p.here) in
      let l : p.left ≡ this h ∷ [] = cc in
      let r : rs ≡ [] = cc in
      last_field e e h l sa (omega arith) (rw (past s e (le_refl e), r) nothing)

-- the invariant of the loop of `cells_at`
pub record RowInv (s : List ℕ) (start n at : ℕ) (ps : List Place) : Type 0 where
  pub started : start ≤ at
  pub within : at ≤ length s
  pub few : n ≤ at
  pub ten : length ps ≡ 10
  pub readable : Readable (drop at s)
  pub passed : (fs : List Cell) (rs : List (List Cell)) → File (drop start s) (fs ∷ rs) → Seen s start fs rs n at ps

module _ {s : List ℕ} {start n at : ℕ} {ps : List Place} (i : RowInv s start n at ps) where
  pub inv_comma : {qs : List Place} (e : ℕ) → qs ≡ set ps n (record { from = at; to = e }) → FieldAt s at (Some (Comma e)) → RowInv s start (n + 1) (e + 1) qs
  inv_comma e q h =
      let st = step_comma s at e h in
      let f = h.0.from in
      record {
        started = omega arith;
        within = st.within;
        few = omega arith;
        ten = ap length q ∙ length-set ps n (record { from = at; to = e }) ∙ i.ten;
        readable = st.same.0 i.readable;
        passed = λ fs rs k. rw q (seen_more i.ten (i.passed fs rs k) e h);
      }

  pub inv_row : (e : ℕ) (r : Cells) → r ≡ record { count = n + 1; places = set ps n (record { from = at; to = e }); next = e + 2 } → FieldAt s at (Some (Row e)) → RowAt s start r
  inv_row e r q h fs rs k = rw q (seen_row i.ten (i.passed fs rs k) e i.started h)

  pub inv_end : (r : Cells) → r ≡ record { count = n + 1; places = set ps n (record { from = at; to = length s }); next = length s } → FieldAt s at (Some End) → RowAt s start r
  inv_end r q h fs rs k = rw q (seen_end i.ten (i.passed fs rs k) i.started h)
