-- What a caller of `start_of` has: the row that starts there, and the rows behind it, are those of the text from there on. Other crates' proofs cite these.
use Prim.Native.Nat.{ℕ, ◌≤◌, ◌<◌}
use native.Mathlib.Omega.{arith}
use mathlib.Core.Path.{◌≡◌, refl, sym, ap, subst, ◌∙◌}
use mathlib.Core.List.{List, []}
use lib.ListN.{length}
use Rattle.csv_text.specs.rfc4180.Rfc4180.{Cell, File}
use Rattle.csv_text.specs.cells.Standing.{row_start}
use Rattle.csv_text.specs.Nth.{Nth}
use Rattle.csv_text.specs.places.Places.{StartsAt, at_row, no_row}
use Rattle.csv_text.proofs.Lists.{level}
use Rattle.csv_text.proofs.rfc4180.Unique.{file_unique}
use Rattle.csv_text.proofs.cells.Left.{Left}
use Rattle.csv_text.proofs.places.Here.{HereAt, row_here, row_past}

-- a row of a text starts behind those before it
module _ {s : List ℕ} {n r : ℕ} {rows : List (List Cell)} {cs : List Cell} (q : File s rows) (w : Nth rows n cs) where
  pub start_is : StartsAt s n r → r ≡ row_start w.before
  start_is (at_row {cs = row} p v e) =
      let a = w.number in
      let b = v.number in
      e ∙ ap row_start (level v.before w.before v.behind w.behind row cs (sym v.are ∙ file_unique p q refl ∙ w.are) (omega arith)).0
  start_is (no_row m e) = absurd (m rows cs q w)

  pub start_here : StartsAt s n r → HereAt s r cs w.behind
  start_here h = subst (λ (at : ℕ). HereAt s at cs w.behind) (sym (start_is h)) (row_here s w.before (subst (File s) w.are q))

  -- where it starts at the text's end, the text is empty
  pub start_past : StartsAt s n r → length s ≤ r → s ≡ []
  start_past h l =
      let e = start_is h in
      let k = (start_here h).within in
      row_past s w.before cs w.behind (subst (File s) w.are q) (omega arith)

-- row n of a text, from where it starts
pub record Started (s : List ℕ) (n r : ℕ) : Type 0 where
  pub rows : List (List Cell)
  pub row : List Cell
  pub reading : File s rows
  pub nth : Nth rows n row
  pub here : HereAt s r row nth.behind

module _ {s : List ℕ} {n r : ℕ} where
  -- a start before the text's end is a row's
  pub started : StartsAt s n r → r < length s → Started s n r
  started (at_row {rows} {cs} q w e) l = record { rows = rows; row = cs; reading = q; nth = w; here = start_here q w (at_row q w e) }
  started (no_row m e) l = absurd (omega arith)

  pub start_within : StartsAt s n r → r ≤ length s
  start_within (at_row q w e) = (start_here q w (at_row q w e)).within
  start_within (no_row m e) = omega arith

  pub start_left : StartsAt s n r → r < length s → Left s r
  start_left h l = let w = started h l in record { within = w.here.within; readable = record { rows = _; reading = w.here.file } }
