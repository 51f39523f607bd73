-- Fills of no member, each in its ranges and no place twice, written as rows one behind the other: a common fill book, and these are its fills.
use Prim.Native.Nat.{ℕ, suc, ◌≤◌, ◌<◌}
use native.Mathlib.Omega.{arith}
use mathlib.Core.Path.{◌≡◌, refl, sym}
use mathlib.Core.List.{List, [], ◌∷◌}
use lib.ListN.{length, get_or}
use Rattle.csv_text.specs.rfc4180.Rfc4180.{none, plain, Cell, Record, only, then, File, closed, next}
use Rattle.csv_text.proofs.Lists.{nil_cons}
use Rattle.csv_text.proofs.rfc4180.First.{cell}
use Rattle.fields.specs.Numbers.{is_positive}
use Rattle.fields.specs.names.Names.{no_name}
use Rattle.fields.proofs.Numerals.{number_plain}
use Rattle.block.specs.Decimal.{decimal}
use Rattle.block.proofs.Numbers.{decimal_numeral, decimal_length}
use Rattle.fills.specs.declared.fill_rows.Fill.{Fill}
use Rattle.fills.specs.declared.fill_rows.Whose.TheVariants.{Common}
use Rattle.fills.specs.fill_rows.Form.{Five, cells_of, UpTo, Form}
use Rattle.fills.specs.FillBook.{TextRows, no_bytes, bytes, Forms, no_form, form, no_fill, Once, FillBook}
use Rattle.fills.specs.table2_book.Text.{row_text, book_text}
use Rattle.fills.proofs.Holding.{InRange}

-- a fill that a row of a common book may mean
pub record CommonFill (f : Fill) : Type 0 where
  pub nobody : f.member ≡ no_name
  pub ranged : InRange f.soil f.slope f.value

-- the cell of a plain field
abbrev plain_cell : List ℕ → Cell
plain_cell t = cell t t

abbrev five_of : Fill → Five
five_of f = record { member = plain_cell []; soil = plain_cell (decimal f.soil); slope = plain_cell (decimal f.slope); value = plain_cell (decimal f.value); note = plain_cell [] }

-- the text of a number up to 40,000 has the form of a number
up_to : (bound n : ℕ) → bound ≤ 40000 → (1 ≤ n) × (n ≤ bound) → UpTo bound (decimal n) n
up_to bound n small h =
    let most = h.1 in
    record { number = is_positive {n = n} (record { numeral = decimal_numeral n; few = decimal_length 8 n (omega arith) }) refl; from = h.0; to = most }

module _ (f : Fill) (w : CommonFill f) where
  means : Form Common (cells_of (five_of f)) f
  means = record {
    five = five_of f;
    are = refl;
    member = (refl, w.nobody);
    soil = up_to 5 f.soil (omega arith) w.ranged.soil_in;
    slope = up_to 5 f.slope (omega arith) w.ranged.slope_in;
    value = up_to 40000 f.value (omega arith) w.ranged.value_in;
  }

  written : Record (row_text f) (cells_of (five_of f))
  unfolding row_text means
  written =
      then {f = plain_cell []} (plain none)
      (then {f = plain_cell (decimal f.soil)} (plain (number_plain _ _ means.soil.number))
      (then {f = plain_cell (decimal f.slope)} (plain (number_plain _ _ means.slope.number))
      (then {f = plain_cell (decimal f.value)} (plain (number_plain _ _ means.value.number)) (only {f = plain_cell []} (plain none)))))

-- each fill of a list
abbrev pub Each : (Fill → Type 0) → List Fill → Type 0
Each P fs = (k : ℕ) → k < length fs → P (get_or fs k no_fill)

rows_of : List Fill → List (List Cell)
rows_of [] = []
rows_of (f ∷ fs) = cells_of (five_of f) ∷ rows_of fs

filed : (f : Fill) (fs : List Fill) → Each CommonFill (f ∷ fs) → File (book_text (f ∷ fs)) (rows_of (f ∷ fs))
unfolding book_text row_text rows_of
filed f [] w = closed (written f (w 0 (omega arith)))
filed f (g ∷ fs) w = next (written f (w 0 (omega arith))) (λ e. nil_cons (sym e)) (filed g fs (λ k l. w (suc k) (omega arith)))

texted : (fs : List Fill) → Each CommonFill fs → TextRows (book_text fs) (rows_of fs)
unfolding book_text row_text rows_of
texted [] w = no_bytes
texted (f ∷ fs) w = bytes (λ e. nil_cons (sym e)) (filed f fs w)

meant : (fs : List Fill) → Each CommonFill fs → Forms Common (rows_of fs) fs
unfolding rows_of
meant [] w = no_form
meant (f ∷ fs) w = form (means f (w 0 (omega arith))) (meant fs (λ k l. w (suc k) (omega arith)))

pub common_book : (fs : List Fill) → length (book_text fs) ≤ 65536 → Each CommonFill fs → Once fs → FillBook Common (book_text fs) fs
common_book fs short w once = record { size = short; rows = rows_of fs; text = texted fs w; forms = meant fs w; once = once }
