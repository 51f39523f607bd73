-- A row that stands behind others in a text starts behind them and their CRLFs, and the text from there on has it and the rows behind it. Other crates'
-- proofs cite these.
use Prim.Native.Nat.{ℕ, ◌+◌, ◌≤◌}
use native.Mathlib.Omega.{arith}
use mathlib.Core.Path.{◌≡◌, refl, sym, ap, subst, ◌∙◌}
use mathlib.Core.List.{List, [], ◌∷◌, ◌++◌}
use lib.ListN.{length, drop, length-append}
use lib.Seq.{drop-append-add, drop-drop}
use Rattle.arithmetic.proofs.Cases.{impossible}
use Rattle.csv_text.specs.rfc4180.Rfc4180.{CR, LF, Cell, File, last, closed, next}
use Rattle.csv_text.specs.cells.Standing.{row_text, row_start}
use Rattle.csv_text.proofs.cells.Standing.{record_text}

-- the text from a place on has this row and these behind it
pub record HereAt (s : List ℕ) (at : ℕ) (row : List Cell) (behind : List (List Cell)) : Type 0 where
  pub file : File (drop at s) (row ∷ behind)
  pub within : at ≤ length s

record Behind (s : List ℕ) (cs : List Cell) (css : List (List Cell)) : Type 0 where
  text : List ℕ
  are : s ≡ row_text cs ++ CR ∷ LF ∷ text
  some : text ≡ [] → ⊥
  file : File text css

behind : {s : List ℕ} {cs : List Cell} {css : List (List Cell)} → File s (cs ∷ css) → (css ≡ [] → ⊥) → Behind s cs css
behind (last p) n = absurd (n refl)
behind (closed p) n = absurd (n refl)
behind (next {t = t} p m q) n = record { text = t; are = ap (λ (l : List ℕ). l ++ CR ∷ LF ∷ t) (record_text p); some = m; file = q }

not_last : (css : List (List Cell)) (row : List Cell) (more : List (List Cell)) → css ++ row ∷ more ≡ [] → ⊥
not_last [] row more e = impossible cc
not_last (cs ∷ css) row more e = impossible cc

pub row_here : (s : List ℕ) (css : List (List Cell)) {row : List Cell} {more : List (List Cell)} → File s (css ++ row ∷ more) → HereAt s (row_start css) row more
unfolding row_start
row_here s [] q = record { file = q; within = omega arith }
row_here s (cs ∷ css) {row} {more} q =
    let w = behind q (not_last css row more) in
    let h = row_here w.text css w.file in
    let l = length-append (row_text cs) (CR ∷ LF ∷ w.text) in
    let n = ap length w.are in
    let in_text = h.within in
    let rest : drop (length (row_text cs) + 2) s ≡ w.text = ap (drop (length (row_text cs) + 2)) w.are ∙ drop-append-add (row_text cs) (CR ∷ LF ∷ w.text) 2 in
    let e : drop (row_start css) w.text ≡ drop (length (row_text cs) + 2 + row_start css) s = ap (drop (row_start css)) (sym rest) ∙ drop-drop (row_start css) (length (row_text cs) + 2) s in
    record { file = subst (λ (t : List ℕ). File t (row ∷ more)) e h.file; within = omega arith }

empty : (s : List ℕ) → 0 ≡ length s → s ≡ []
empty [] e = refl
empty (b ∷ s) e = absurd (omega arith)

-- a row that starts where the text ends is that of the empty text
pub row_past : (s : List ℕ) (css : List (List Cell)) (row : List Cell) (more : List (List Cell)) → File s (css ++ row ∷ more) → row_start css ≡ length s → s ≡ []
unfolding row_start
row_past s [] row more q e = empty s e
row_past s (cs ∷ css) row more q e =
    let w = behind q (not_last css row more) in
    let l = length-append (row_text cs) (CR ∷ LF ∷ w.text) in
    let n = ap length w.are in
    absurd (w.some (row_past w.text css row more w.file (omega arith)))

-- one row more is passed
pub start_more : (css : List (List Cell)) (cs : List Cell) → row_start (css ++ cs ∷ []) ≡ row_start css + (length (row_text cs) + 2)
unfolding row_start
start_more [] cs = omega arith
start_more (c ∷ css) cs = let h = start_more css cs in omega arith
