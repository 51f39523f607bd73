-- The rows of a text are passed up to the one sought, or to the last: where each starts.
use Prim.Native.Nat.{ℕ, ◌+◌, ◌≤◌, ◌<◌}
use native.Mathlib.Omega.{arith}
use mathlib.Core.Path.{◌≡◌, refl, sym, ◌∙◌}
use mathlib.Core.List.{List, [], ◌∷◌, ◌++◌}
use lib.ListN.{length}
use Rattle.csv_text.specs.rfc4180.Rfc4180.{Cell, Readable}
use Rattle.csv_text.specs.cells.Cells.{RowIs, RowAt}
use Rattle.csv_text.specs.cells.Standing.{row_start}
use Rattle.csv_text.specs.places.Places.{StartsAt, at_row, no_row}
use Rattle.csv_text.specs.declared.cells.Cells.{Cells}
use Rattle.csv_text.proofs.cells.Standing.{file_offset}
use Rattle.csv_text.proofs.notes.Reached.{RowReached, reached_start, reached_more, none_left}
use Rattle.csv_text.proofs.places.Here.{start_more}

-- row n is reached, where it starts, and the row sought is none of those passed
pub record Seeking (s : List ℕ) (row n at : ℕ) : Type 0 where
  pub passed : List (List Cell)
  pub reached : RowReached s passed n at
  pub starts : at ≡ row_start passed
  pub ahead : 1 ≤ row → n ≤ row

pub seeking_start : {s : List ℕ} (row : ℕ) {n : ℕ} → n ≡ 1 → Readable s → Seeking s row n 0
unfolding row_start
seeking_start row e q = rw e (record { passed = []; reached = reached_start q; starts = refl; ahead = λ h. h })

module _ {s : List ℕ} {row n at : ℕ} (i : Seeking s row n at) where
  pub seeking_found : n ≡ row → StartsAt s row at
  seeking_found e =
      let r = i.reached in
      at_row r.reading (record { before = i.passed; behind = r.behind; are = r.are; number = sym e ∙ r.number }) i.starts

  module _ {c : Cells} (h : RowAt s at c) where
    is : RowIs s at i.reached.row i.reached.behind c
    is = h _ _ i.reached.here

    pub seeking_on : c.next < length s → at < c.next
    seeking_on k = is.on k

    pub seeking_end : (n ≡ row → ⊥) → length s ≤ c.next → {r : ℕ} → r ≡ length s → StartsAt s row r
    seeking_end e k z = no_row (λ rows cs q w. none_left i.reached is.rest k i.ahead e q w) z

    pub seeking_more : (n ≡ row → ⊥) → c.next < length s → Seeking s row (n + 1) c.next
    seeking_more e k =
        let b = is.behind in
        let o = file_offset i.reached.here in
        let st = i.starts in
        let m = start_more i.passed i.reached.row in
        record {
          passed = i.passed ++ i.reached.row ∷ [];
          reached = reached_more i.reached is.rest (seeking_on k) k;
          starts = omega arith;
          ahead = λ x. let a = i.ahead x in omega (arith, e);
        }
