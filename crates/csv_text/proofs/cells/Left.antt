-- A walk of a text from row to row: what is left of it is RFC 4180, its first row is told by `cells_at`, and behind that row stand the others, or
-- nothing. Other crates' proofs cite it.
use Prim.Native.Nat.{ℕ, ◌≤◌, ◌<◌}
use native.Mathlib.Decide.{dec_lt}
use native.Mathlib.Omega.{arith}
use mathlib.Core.Path.{subst}
use mathlib.Core.List.{List}
use lib.ListN.{length, drop}
use Rattle.arithmetic.proofs.Cases.{by_cases}
use Rattle.csv_text.specs.rfc4180.Rfc4180.{File, Readable}
use Rattle.csv_text.specs.cells.Cells.{RowIs, RowAt}
use Rattle.csv_text.specs.declared.cells.Cells.{Cells}
use Rattle.csv_text.proofs.rfc4180.First.{first, some_row, rest_readable}

pub record Left (s : List ℕ) (at : ℕ) : Type 0 where
  pub within : at ≤ length s
  pub readable : Readable (drop at s)

module _ {s : List ℕ} {at : ℕ} (l : at < length s) (h : Left s at) {cells : Cells} (row : RowAt s at cells) where
  abbrev is : RowIs s at (some_row (first h.readable.reading)).0 (some_row (first h.readable.reading)).1 cells
  is =
      let m = some_row (first h.readable.reading) in
      row m.0 m.1 (subst (File (drop at s)) m.2 h.readable.reading)

  pub left_behind : Left s cells.next
  left_behind = let e = is.behind in record { within = omega arith; readable = rest_readable is.rest }

  pub goes_on : at < cells.next
  goes_on = by_cases (dec_lt cells.next (length s)) is.on (λ n. omega (arith, n))
