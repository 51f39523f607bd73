-- The rows of a text, reached one by one: behind a row stands the next, or nothing, and then it was the last.
use Prim.Native.Nat.{ℕ, ◌+◌, ◌≤◌, ◌<◌}
use native.Mathlib.Omega.{arith}
use mathlib.Core.Path.{◌≡◌, refl, sym, ap, subst, ◌∙◌}
use mathlib.Core.List.{List, [], ◌∷◌, ◌++◌}
use lib.ListN.{length, drop, length-append}
use lib.Seq.{append_snoc}
use Rattle.csv_text.specs.rfc4180.Rfc4180.{Cell, File, Readable}
use Rattle.csv_text.specs.cells.Cells.{Rest, nothing, more}
use Rattle.csv_text.specs.Nth.{Nth}
use Rattle.csv_text.proofs.rfc4180.Parts.{at_index, past}
use Rattle.csv_text.proofs.Lists.{nil_cons}
use Rattle.csv_text.proofs.rfc4180.First.{first, some_row}
use Rattle.csv_text.proofs.rfc4180.Unique.{file_unique}

rest_more : {t : List ℕ} {css : List (List Cell)} → Rest t css → (t ≡ [] → ⊥) → File t css
rest_more nothing n = absurd (n refl)
rest_more (more m q) n = q

rest_none : {t : List ℕ} {css : List (List Cell)} → Rest t css → t ≡ [] → css ≡ []
rest_none nothing e = refl
rest_none (more m q) e = absurd (m e)

-- the rows before row n are passed, and it starts at `at`. Each of them took a byte at least, so the number does not outrun the text
pub record RowReached (s : List ℕ) (passed : List (List Cell)) (n at : ℕ) : Type 0 where
  pub rows : List (List Cell)
  pub reading : File s rows
  pub row : List Cell
  pub behind : List (List Cell)
  pub are : rows ≡ passed ++ row ∷ behind
  pub number : n ≡ length passed + 1
  pub here : File (drop at s) (row ∷ behind)
  pub within : at ≤ length s
  pub few : n ≤ at + 1

-- what is left of a text begins with a row
reach : {s : List ℕ} {rows passed left : List (List Cell)} {n at : ℕ} → File s rows → rows ≡ passed ++ left → n ≡ length passed + 1 → File (drop at s) left → at ≤ length s → n ≤ at + 1 → RowReached s passed n at
reach {s} {rows} {passed} {at = at} reading split number here within few =
    let m = some_row (first here) in
    record {
      rows = rows;
      reading = reading;
      row = m.0;
      behind = m.1;
      are = split ∙ ap (λ (l : List (List Cell)). passed ++ l) m.2;
      number = number;
      here = subst (File (drop at s)) m.2 here;
      within = within;
      few = few;
    }

pub reached_start : {s : List ℕ} → Readable s → RowReached s [] 1 0
reached_start q = reach q.reading refl refl q.reading (omega arith) (omega arith)

module _ {s : List ℕ} {passed : List (List Cell)} {n at next : ℕ} (i : RowReached s passed n at) (rest : Rest (drop next s) i.behind) where
  -- more text behind the row is the next one's
  pub reached_more : at < next → next < length s → RowReached s (passed ++ i.row ∷ []) (n + 1) next
  reached_more o k =
      let f = i.few in
      let p = i.number in
      let l = length-append passed (i.row ∷ []) in
      reach i.reading (i.are ∙ sym (append_snoc passed i.row i.behind)) (omega arith)
      (rest_more rest (λ e. nil_cons (sym e ∙ at_index s next k))) (omega arith) (omega arith)

  -- no text behind it: all rows are reached
  module _ (k : length s ≤ next) where
    pub reached_last : i.rows ≡ passed ++ i.row ∷ []
    reached_last = i.are ∙ ap (λ (l : List (List Cell)). passed ++ i.row ∷ l) (rest_none rest (past s next k))

    pub reached_many : length i.rows ≡ n
    reached_many = ap length reached_last ∙ length-append passed (i.row ∷ []) ∙ sym i.number

    -- and a row that is neither among those passed nor the last is none
    pub none_left : {row : ℕ} → (1 ≤ row → n ≤ row) → (n ≡ row → ⊥) → {rows : List (List Cell)} {cs : List Cell} → File s rows → Nth rows row cs → ⊥
    none_left ahead e {rows} {cs} q r =
        let many : length rows ≡ n = ap length (file_unique q i.reading refl) ∙ reached_many in
        let number = r.number in
        let a = ahead (omega arith) in
        e (omega (arith, ap length r.are, length-append r.before (cs ∷ r.behind)))
