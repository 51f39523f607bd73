-- What `cells_at` and `cell` promise is met by one answer only.
use Prim.Native.Nat.{ℕ, ◌≤◌, ◌<◌}
use native.Mathlib.Decide.{dec_lt, dec_le}
use native.Mathlib.Omega.{arith}
use mathlib.Core.Path.{◌≡◌, sym, subst, ◌∙◌}
use mathlib.Core.List.{List, ◌∷◌}
use lib.ListN.{length, drop}
use lib.Seq.{ext_get_or}
use Rattle.arithmetic.proofs.Cases.{by_cases}
use Rattle.csv_text.specs.rfc4180.Rfc4180.{Cell, File, Readable}
use Rattle.csv_text.proofs.rfc4180.First.{first, some_row}
use Rattle.csv_text.specs.cells.Cells.{no_place, place, RowIs, RowAt, Stands, CellAt}
use Rattle.csv_text.specs.declared.cells.Cells.{Cells}

module _ {s : List ℕ} {start : ℕ} {fs : List Cell} {rs : List (List Cell)} {r q : Cells} (h : RowIs s start fs rs r) (k : RowIs s start fs rs q) where
  places : (i : ℕ) → i < 10 → Dec (i < length fs) → place r i ≡ place q i
  places i l (yes y) =
      let a = h.stretches i l y in
      let b = k.stretches i l y in
      let f : (place r i).from ≡ (place q i).from = a.starts ∙ sym b.starts in
      let t : (place r i).to ≡ (place q i).to = a.ends ∙ sym b.ends in
      λ j. record { from = f j; to = t j }
  places i l (no y) = h.unused i (omega arith) ∙ sym (k.unused i (omega arith))

  row_is_one : r ≡ q
  row_is_one =
      let a : r.places ≡ q.places = ext_get_or no_place _ _ (h.ten ∙ sym k.ten) (λ i l. places i (let t = h.ten in omega arith) (dec_lt i (length fs))) in
      let c : r.count ≡ q.count = h.count ∙ sym k.count in
      let d : r.next ≡ q.next = h.behind ∙ sym k.behind in
      λ i. record { count = c i; places = a i; next = d i }

pub cells_one : {s : List ℕ} {start : ℕ} {r q : Cells} → Readable (drop start s) → RowAt s start r → RowAt s start q → r ≡ q
cells_one {s} {start} w h k =
    let m = some_row (first w.reading) in
    let f : File (drop start s) (m.0 ∷ m.1) = subst (File (drop start s)) m.2 w.reading in
    row_is_one (h m.0 m.1 f) (k m.0 m.1 f)

-- a stretch that is there, or is not
stands : (s : List ℕ) (c : Cells) (k : ℕ) → Dec (Stands s c k)
stands s c k = go (dec_lt k 10) (dec_le (place c k).from (place c k).to) (dec_le (place c k).to (length s))
  where
    go : Dec (k < 10) → Dec ((place c k).from ≤ (place c k).to) → Dec ((place c k).to ≤ length s) → Dec (Stands s c k)
    go (yes a) (yes b) (yes d) = yes (record { few = a; order = b; within = d })
    go (no a) b d = no (λ w. a w.few)
    go (yes a) (no b) d = no (λ w. b w.order)
    go (yes a) (yes b) (no d) = no (λ w. d w.within)

pub cell_one : {s : List ℕ} {c : Cells} {k : ℕ} {r q : List ℕ} → CellAt s c k r → CellAt s c k q → r ≡ q
cell_one {s} {c} {k} a b = by_cases (stands s c k) (λ w. a.there w ∙ sym (b.there w)) (λ n. a.missing n ∙ sym (b.missing n))
