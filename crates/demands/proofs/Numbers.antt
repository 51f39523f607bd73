-- A book's refusals are 1 to 6.
use Prim.Native.Nat.{ℕ, ◌≤◌}
use native.Mathlib.Omega.{arith}
use mathlib.Core.Path.{◌≡◌}
use mathlib.Core.List.{List}
use Rattle.arithmetic.proofs.Cases.{impossible}
use Rattle.csv_text.specs.rfc4180.Rfc4180.{Cell}
use Rattle.rows.specs.Form.{BookRow}
use Rattle.book.specs.Says.{formless, misplaced, surplus, reused, Bad, BookSays, too_long, not_csv, bad_row, unfinished, book, refused}

row_numbers : {rs : List BookRow} {cs : List Cell} {why : ℕ} → Bad rs cs why → (1 ≤ why) × (why ≤ 6)
row_numbers (formless n) = (omega arith, omega arith)
row_numbers (misplaced f n) = (omega arith, omega arith)
row_numbers (surplus f p n) = (omega arith, omega arith)
row_numbers (reused f p n d) = (omega arith, omega arith)

pub book_numbers : {s : List ℕ} {n row : ℕ} → BookSays s (refused n row) → (1 ≤ n) × (n ≤ 6)
book_numbers {n = n} (too_long l e) = let z : n ≡ 1 = cc in (omega arith, omega arith)
book_numbers {n = n} (not_csv l r e) = let z : n ≡ 2 = cc in (omega arith, omega arith)
book_numbers {n = n} (bad_row {why = why} l f b e) = let z : n ≡ why = cc in let w = row_numbers b.bad in (omega arith, omega arith)
book_numbers {n = n} (unfinished l f u e) = let z : n ≡ 4 = cc in (omega arith, omega arith)
book_numbers (book b e) = impossible cc
