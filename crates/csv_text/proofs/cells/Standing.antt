-- Cells that stand where places say are fields there, and a row is its cells with their commas, from where it starts.
use Prim.Native.Nat.{ℕ, suc, ◌+◌, ◌-◌, ◌≤◌, ◌<◌}
use native.Mathlib.Decide.{dec_lt}
use native.Mathlib.Omega.{arith}
use mathlib.Core.Path.{◌≡◌, refl, sym, ap, subst, ◌∙◌}
use mathlib.Core.List.{List, [], ◌∷◌, ◌++◌, append-nil}
use lib.ListN.{length, take, drop, length-append, length-drop, get_or-eq_default}
use lib.Seq.{take_at}
use Rattle.arithmetic.proofs.Cases.{by_cases}
use Rattle.csv_text.specs.rfc4180.Rfc4180.{COMMA, CR, LF, Cell, Field, Record, only, then, File, last, closed, next}
use Rattle.csv_text.specs.Part.{part}
use Rattle.csv_text.specs.cells.Cells.{offset, RowIs, RowAt, CellAt}
use Rattle.csv_text.specs.cells.Content.{no_cell}
use Rattle.csv_text.specs.cells.Standing.{raw, Standing, row_text}
use Rattle.csv_text.specs.cells.Content.{content}
use Rattle.csv_text.specs.declared.cells.Place.{Place}
use Rattle.csv_text.specs.declared.cells.Cells.{Cells}
use Rattle.csv_text.proofs.cells.Fields.{row_fields}

module _ {s : List ℕ} {start : ℕ} {c : Cells} (h : RowAt s start c) (cs : List Cell) (css : List (List Cell)) (q : File (drop start s) (cs ∷ css)) where
  pub standing : {many : ℕ} → many ≤ 10 → c.count ≡ many → Standing many s c cs
  standing {many} few n =
      let i = h cs css q in
      let t : length cs ≡ many = sym i.count ∙ n in
      record { so_many = t; place = λ k. start + offset cs k; stands = λ k l. i.stretches k (omega arith) (omega arith); field = λ k l. row_fields q k (omega arith) }

-- a cell's stretch is a field of its content
module _ {many : ℕ} {s : List ℕ} {c : Cells} {cs : List Cell} (t : Standing many s c cs) (few : many ≤ 10) where
  pub cell_field : (k : ℕ) (r : List ℕ) → k < many → CellAt s c k r → Field r (content cs k)
  cell_field k r h a =
      let w = t.stands k h in
      let p = w.starts in
      let q = w.ends in
      let e : r ≡ raw cs k = a.there (record { few = omega arith; order = omega arith; within = w.within }) ∙ w.is in
      subst (λ (l : List ℕ). Field l (content cs k)) (sym e) (t.field k h)

pub record_text : {s : List ℕ} {cs : List Cell} → Record s cs → s ≡ row_text cs
unfolding row_text
record_text (only f) = refl
record_text (then h (only g)) = refl
record_text (then {f} h (then g p)) = ap (λ (l : List ℕ). f.raw ++ COMMA ∷ l) (record_text (then g p))

-- a text begins with its first row
record Begins (s : List ℕ) (cs : List Cell) : Type 0 where
  behind : List ℕ
  are : s ≡ row_text cs ++ behind

begins : {s : List ℕ} {cs : List Cell} {css : List (List Cell)} → File s (cs ∷ css) → Begins s cs
begins {s} (last p) = record { behind = []; are = record_text p ∙ sym (append-nil _) }
begins (closed p) = record { behind = CR ∷ LF ∷ []; are = ap (λ (l : List ℕ). l ++ CR ∷ LF ∷ []) (record_text p) }
begins (next {t = t} p n q) = record { behind = CR ∷ LF ∷ t; are = ap (λ (l : List ℕ). l ++ CR ∷ LF ∷ t) (record_text p) }

-- the row that starts at a place lies there
module _ (s : List ℕ) (start : ℕ) {cs : List Cell} {css : List (List Cell)} (q : File (drop start s) (cs ∷ css)) where
  pub row_lies : part start (start + length (row_text cs)) s ≡ row_text cs
  row_lies =
      let b = begins q in
      let n : start + length (row_text cs) - start ≡ length (row_text cs) = omega arith in
      ap (λ (k : ℕ). take k (drop start s)) n ∙ ap (take (length (row_text cs))) b.are ∙ take_at (row_text cs) b.behind (length (row_text cs)) refl

  pub row_within : start ≤ length s → start + length (row_text cs) ≤ length s
  row_within h =
      let b = begins q in
      omega (arith, length-drop start s, ap length b.are, length-append (row_text cs) b.behind)

-- the offset behind a row's last field counts a comma more than the row has
pub row_offset : (f : Cell) (fs : List Cell) → offset (f ∷ fs) (suc (length fs)) ≡ length (row_text (f ∷ fs)) + 1
unfolding row_text offset
row_offset f [] = omega arith
row_offset f (g ∷ fs) =
    let h = row_offset g fs in
    let l = length-append f.raw (COMMA ∷ row_text (g ∷ fs)) in
    omega arith

record_offset : {s : List ℕ} {cs : List Cell} → Record s cs → offset cs (length cs) ≡ length (row_text cs) + 1
record_offset (only {f} h) = row_offset f []
record_offset (then {f} {fs} h p) = row_offset f fs

pub file_offset : {s : List ℕ} {cs : List Cell} {css : List (List Cell)} → File s (cs ∷ css) → offset cs (length cs) ≡ length (row_text cs) + 1
file_offset (last p) = record_offset p
file_offset (closed p) = record_offset p
file_offset (next p n q) = record_offset p

-- the stretch of a cell of a row, among the first ten: the field that stands there, or nothing where the row has none
pub cell_raw : {s : List ℕ} {at : ℕ} {cs : List Cell} {css : List (List Cell)} {c : Cells} → RowIs s at cs css c → (k : ℕ) → k < 10 → {r : List ℕ} → CellAt s c k r → r ≡ raw cs k
cell_raw {s} {cs = cs} is k few a =
    by_cases (dec_lt k (length cs))
    (λ l.
    let w = is.stretches k few l in
    let p = w.starts in
    let q = w.ends in
    a.there (record { few = few; order = omega arith; within = w.within }) ∙ w.is)
    (λ l.
    let u = is.unused k (omega arith) in
    a.there (record { few = few; order = rw u (omega arith); within = rw u (omega arith) })
    ∙ ap (λ (p : Place). part p.from p.to s) u
    ∙ sym (ap (λ (x : Cell). x.raw) (get_or-eq_default cs no_cell (omega arith))))
