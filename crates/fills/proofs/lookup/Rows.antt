-- The rows of a fill book, passed one by one up to the one sought: where it starts, and where it ends.
use Prim.Native.Nat.{ℕ, ◌+◌, ◌≤◌, ◌<◌}
use native.Mathlib.Decide.{dec_lt}
use native.Mathlib.Omega.{arith}
use mathlib.Core.Path.{◌≡◌, refl, sym, ap, subst, ◌∙◌}
use mathlib.Core.List.{List, [], ◌∷◌, ◌++◌}
use lib.ListN.{length, get_or, length-append}
use Rattle.arithmetic.proofs.Cases.{by_cases}
use Rattle.csv_text.specs.rfc4180.Rfc4180.{Cell, File}
use Rattle.csv_text.specs.cells.Cells.{offset, Rest, nothing, more, RowIs, RowAt}
use Rattle.csv_text.specs.cells.Cells as cells
use Rattle.csv_text.specs.cells.Content.{no_cell}
use Rattle.csv_text.specs.cells.Standing.{row_text, row_start}
use Rattle.csv_text.specs.declared.cells.Cells.{Cells}
use Rattle.csv_text.proofs.Lists.{level}
use Rattle.csv_text.proofs.rfc4180.Parts.{past}
use Rattle.csv_text.proofs.rfc4180.Unique.{file_unique}
use Rattle.csv_text.proofs.cells.Standing.{file_offset}
use Rattle.csv_text.proofs.notes.Reached.{RowReached, reached_start, reached_more}
use Rattle.csv_text.proofs.places.Here.{start_more}
use Rattle.fills.specs.declared.fill_rows.Fill.{Fill}
use Rattle.fills.specs.declared.fill_rows.Whose.{Whose}
use Rattle.fills.specs.fill_rows.Form.{Form}
use Rattle.fills.specs.FillBook.{TextRows, no_bytes, bytes, Forms, FillBook}
use Rattle.fills.specs.lookup.steps.Found.{HasRow, PartIs}
use Rattle.fills.proofs.fill_rows.Cells.{form_length}
use Rattle.fills.proofs.Walking.{some_form}

-- a text with a row is RFC 4180
pub rows_file : {s : List ℕ} {rows : List (List Cell)} → TextRows s rows → 0 < length rows → File s rows
rows_file no_bytes l = absurd (omega arith)
rows_file (bytes n q) l = q

-- row k is reached, where it starts, and the row sought is none of those passed
pub record Going (s : List ℕ) (n k at : ℕ) : Type 0 where
  pub has : HasRow s n
  pub passed : List (List Cell)
  pub reached : RowReached s passed (k + 1) at
  pub starts : at ≡ row_start passed
  pub ahead : k ≤ n

pub going_start : {s : List ℕ} {n : ℕ} → HasRow s n → Going s n 0 0
unfolding row_start
going_start h =
    let m = h.more in
    record { has = h; passed = []; reached = reached_start (record { rows = h.book.rows; reading = rows_file h.book.text (omega arith) }); starts = refl; ahead = omega arith }

-- the rows of any fill book that the text is
same_rows : {s : List ℕ} {passed : List (List Cell)} {k at : ℕ} (r : RowReached s passed k at) {of : Whose} {fs : List Fill} (b : FillBook of s fs) → 0 < length b.rows → b.rows ≡ r.rows
same_rows r b l = file_unique (rows_file b.text l) r.reading refl

module _ {s : List ℕ} {n k at : ℕ} {c : Cells} (i : Going s n k at) (h : RowAt s at c) where
  abbrev cs : List Cell
  cs = i.reached.row

  is : RowIs s at cs i.reached.behind c
  is = h _ _ i.reached.here

  -- behind a row before the one sought there is another
  left : (k ≡ n → ⊥) → 1 ≤ length i.reached.behind
  left e =
      let m = i.has.more in
      let a = i.ahead in
      let number = i.reached.number in
      omega (arith, e, ap length (same_rows i.reached i.has.book (omega arith)), ap length i.reached.are, length-append i.passed (cs ∷ i.reached.behind))

  on : {t : List ℕ} {css : List (List Cell)} → Rest t css → 1 ≤ length css → t ≡ [] → ⊥
  on nothing l e = omega arith
  on (more n q) l e = n e

  pub going_on : (k ≡ n → ⊥) → c.next < length s
  going_on e = by_cases (dec_lt c.next (length s)) (λ l. l) (λ l. absurd (on is.rest (left e) (past s c.next (omega arith))))

  some : (g : Fill) × Form i.has.of cs g
  some =
      let m = i.has.more in
      some_form i.passed cs i.reached.behind (subst (λ (l : List (List Cell)). Forms i.has.of l i.has.fills) (same_rows i.reached i.has.book (omega arith) ∙ i.reached.are) i.has.book.forms)

  pub going_more : (k ≡ n → ⊥) → Going s n (k + 1) c.next
  going_more e =
      let l = going_on e in
      let b = is.behind in
      let o = file_offset i.reached.here in
      let st = i.starts in
      let m = start_more i.passed cs in
      let a = i.ahead in
      record { has = i.has; passed = i.passed ++ cs ∷ []; reached = reached_more i.reached is.rest (is.on l) l; starts = omega arith; ahead = omega (arith, e) }

  -- the end of the fifth cell is the row's
  fifth : (row : List Cell) → length row ≡ 5 → offset row 5 ≡ offset row 4 + length (get_or row 4 no_cell).raw + 1
  unfolding offset
  fifth [] z = absurd (omega arith)
  fifth (p ∷ []) z = absurd (omega arith)
  fifth (p ∷ q ∷ []) z = absurd (omega arith)
  fifth (p ∷ q ∷ r ∷ []) z = absurd (omega arith)
  fifth (p ∷ q ∷ r ∷ t ∷ []) z = absurd (omega arith)
  fifth (p ∷ q ∷ r ∷ t ∷ u ∷ []) z = omega arith
  fifth (p ∷ q ∷ r ∷ t ∷ u ∷ v ∷ row) z = absurd (omega arith)

  pub going_found : k ≡ n → PartIs s n (record { from = at; to = (cells.place c 4).to })
  going_found e of fs b row nth =
      let number = i.reached.number in
      let place = nth.number in
      let some_row : 0 < length b.rows = omega (arith, ap length nth.are, length-append nth.before (row ∷ nth.behind)) in
      let both = level i.passed nth.before i.reached.behind nth.behind cs row (sym i.reached.are ∙ sym (same_rows i.reached b some_row) ∙ nth.are) (omega arith) in
      let five = form_length some.1 in
      let w = is.stretches 4 (omega arith) (omega arith) in
      let ends = w.ends in
      let o = file_offset i.reached.here in
      let z : offset cs (length cs) ≡ offset cs 5 = ap (offset cs) five in
      let y = fifth cs five in
      let to : (cells.place c 4).to ≡ at + length (row_text cs) = omega arith in
      (i.starts ∙ ap row_start both.0, to ∙ ap (λ (r : List Cell). at + length (row_text r)) both.1)
