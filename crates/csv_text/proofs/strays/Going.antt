-- How a text goes on behind a field's start: as a text that starts there. And where it cannot go on: by its first field, which is one.
use Prim.Native.Nat.{ℕ}
use native.Mathlib.Omega.{arith}
use mathlib.Core.Path.{◌≡◌, refl, sym, ◌∙◌}
use mathlib.Core.Logic.Iff
use mathlib.Core.Logic.{◌↔◌}
use mathlib.Core.List.{List, [], ◌∷◌, ◌++◌, append_assoc}
use Rattle.csv_text.specs.rfc4180.Rfc4180.{COMMA, CR, DQUOTE, LF, Textdata, Plain, none, text, Inside, Escaped, Field, plain, quoted, Cell, Record, only, then, File, last, closed, next, Readable}
use Rattle.csv_text.specs.steps.FieldAt.{Stop, at_end, at_comma, at_row}
use Rattle.csv_text.specs.strays.Strays.{FieldStarts, at_start, behind_comma, behind_row}
use Rattle.csv_text.proofs.Lists.{nil_cons, heads, tails}
use Rattle.csv_text.proofs.rfc4180.Unique.{text_cr, text_quote, PlainHalts, EscapedHalts, plain_unique, escaped_unique, field_unique, closing_halts, plain_quote, stop_quote, stop_plain, FieldHalts, stop_halts}
use Rattle.csv_text.proofs.rfc4180.First.{comma_readable, row_readable, starts}

-- what holds of whatever is put behind one field holds of it behind a whole text, whose last field it then follows
module _ (u : List ℕ) (Q : Type 0) (one : (r c : List ℕ) → Field r c → Readable (r ++ u) ↔ Q) where
  record_goes_on : {s : List ℕ} {fs : List Cell} → Record s fs → Readable (s ++ u) ↔ Q
  record_goes_on (only {f} h) = one f.raw f.content h
  record_goes_on (then {f} {s} h p) = rw (append_assoc f.raw (COMMA ∷ s) u) (Iff.trans (comma_readable h (s ++ u)) (record_goes_on p))

row_goes_on : {s : List ℕ} {fs : List Cell} → Record s fs → (t : List ℕ) → Readable (s ++ CR ∷ LF ∷ t) ↔ Readable t
row_goes_on p t = record_goes_on (CR ∷ LF ∷ t) (Readable t) (λ r c h. row_readable h t) p

module _ (u : List ℕ) (Q : Type 0) (one : (r c : List ℕ) → Field r c → Readable (r ++ u) ↔ Q) where
  goes_on : {s : List ℕ} {rows : List (List Cell)} → File s rows → Readable (s ++ u) ↔ Q
  goes_on (last p) = record_goes_on u Q one p
  goes_on (closed {s} p) = rw (append_assoc s (CR ∷ LF ∷ []) u) (Iff.trans (row_goes_on p u) (one [] [] (plain none)))
  goes_on (next {s} {t} p n q) = rw (append_assoc s (CR ∷ LF ∷ t) u) (Iff.trans (row_goes_on p (t ++ u)) (goes_on q))

-- behind a field's start a text goes on as one that starts there
pub from_start : {p : List ℕ} → FieldStarts p → (t : List ℕ) → Readable (p ++ t) ↔ Readable t
from_start (at_start e) t = rw e Iff.rfl
from_start (behind_comma {q} w e) t = rw (e, append_assoc q (COMMA ∷ []) t) (goes_on (COMMA ∷ t) (Readable t) (λ r c h. comma_readable h t) w.reading)
from_start (behind_row {q} w e) t = rw (e, append_assoc q (CR ∷ LF ∷ []) t) (goes_on (CR ∷ LF ∷ t) (Readable t) (λ r c h. row_readable h t) w.reading)

-- what follows a field, by its first byte
pub data StopsBy (b : ℕ) : Type 0 where
  comma_stops : b ≡ COMMA → StopsBy b
  return_stops : b ≡ CR → StopsBy b

stop_first : {b : ℕ} {t u : List ℕ} → Stop u → b ∷ t ≡ u → StopsBy b
stop_first at_end e = absurd (nil_cons (sym e))
stop_first at_comma e = comma_stops (heads e)
stop_first at_row e = return_stops (heads e)

-- a byte that begins no field and follows none
module _ {b : ℕ} (nq : b ≡ DQUOTE → ⊥) (nt : Textdata b → ⊥) (ns : StopsBy b → ⊥) where
  start_first : {r c t u : List ℕ} → Field r c → Stop u → b ∷ t ≡ r ++ u → ⊥
  start_first (plain none) k e = ns (stop_first k e)
  start_first (plain (text h p)) k e = nt (rw (heads e) h)
  start_first (quoted g) k e = nq (heads e)

  pub start_halts : (t : List ℕ) → Readable (b ∷ t) → ⊥
  start_halts t = starts (λ r c u g k e. start_first g k e)

plain_begins : (u : List ℕ) {q v : List ℕ} → Plain q → (q ≡ [] → ⊥) → q ++ u ≡ DQUOTE ∷ v → ⊥
plain_begins u none m e = m refl
plain_begins u (text h g) m e = text_quote h (heads e)

-- a byte that neither continues a plain field nor follows it
module _ {b : ℕ} (nt : Textdata b → ⊥) (ns : StopsBy b → ⊥) {q : List ℕ} (p : Plain q) (n : q ≡ [] → ⊥) where
  no_text : (t : List ℕ) → PlainHalts (b ∷ t)
  no_text t x v k e = nt (rw (heads e) k)

  plain_first : (t : List ℕ) {r c u : List ℕ} → Field r c → Stop u → q ++ b ∷ t ≡ r ++ u → ⊥
  plain_first t (plain g) k e = ns (stop_first k (plain_unique p g (no_text t) (stop_plain k) e).1)
  plain_first t (quoted g) k e = plain_begins (b ∷ t) p n e

  pub plain_halts : (t : List ℕ) → Readable (q ++ b ∷ t) → ⊥
  plain_halts t = starts (λ r c u g k e. plain_first t g k e)

-- a byte that neither doubles a closing quote nor follows the field that it closes
module _ {b : ℕ} (nq : b ≡ DQUOTE → ⊥) (ns : StopsBy b → ⊥) {x d : List ℕ} (p : Escaped x d) where
  closed_first : (t : List ℕ) {r c u : List ℕ} → Field r c → Stop u → DQUOTE ∷ (x ++ DQUOTE ∷ []) ++ b ∷ t ≡ r ++ u → ⊥
  closed_first t (plain g) k e = plain_quote g (λ v f. stop_quote k f) (sym e)
  closed_first t {u} (quoted {s = y} g) k e =
      let w : x ++ DQUOTE ∷ b ∷ t ≡ y ++ DQUOTE ∷ u = sym (append_assoc x (DQUOTE ∷ []) (b ∷ t)) ∙ tails e ∙ append_assoc y (DQUOTE ∷ []) u in
      ns (stop_first k (tails (escaped_unique p g (closing_halts (λ v f. nq (heads f))) (closing_halts (λ v f. stop_quote k f)) w).2))

  pub closed_halts : (t : List ℕ) → Readable (DQUOTE ∷ (x ++ DQUOTE ∷ []) ++ b ∷ t) → ⊥
  closed_halts t = starts (λ r c u g k e. closed_first t g k e)

-- what stands between quotes, with nothing behind it that continues or closes it
module _ {x d : List ℕ} (p : Escaped x d) (w : List ℕ) (nb : (b : ℕ) (v : List ℕ) → Inside b → w ≡ b ∷ v → ⊥) (nq : (v : List ℕ) → w ≡ DQUOTE ∷ v → ⊥) where
  inside_first : {r c u : List ℕ} → Field r c → Stop u → DQUOTE ∷ x ++ w ≡ r ++ u → ⊥
  inside_first (plain g) k e = plain_quote g (λ v f. stop_quote k f) (sym e)
  inside_first {u} (quoted {s = y} g) k e =
      let f : x ++ w ≡ y ++ DQUOTE ∷ u = tails e ∙ append_assoc y (DQUOTE ∷ []) u in
      let halts : EscapedHalts w = record { no_byte = nb; no_quotes = λ v z. nq _ z } in
      nq u (escaped_unique p g halts (closing_halts (λ v z. stop_quote k z)) f).2

  pub inside_halts : Readable (DQUOTE ∷ x ++ w) → ⊥
  inside_halts = starts (λ r c u g k e. inside_first g k e)

-- a CR outside quotes with no LF behind it
module _ (w : List ℕ) (n : (v : List ℕ) → w ≡ LF ∷ v → ⊥) where
  return_stop : {u : List ℕ} → Stop u → CR ∷ w ≡ u → ⊥
  return_stop at_end e = nil_cons (sym e)
  return_stop at_comma e = let z : CR ≡ COMMA = heads e in omega arith
  return_stop at_row e = n _ (tails e)

  return_no_field : FieldHalts (CR ∷ w)
  return_no_field = record { no_text = λ b v k e. text_cr k (sym (heads e)); no_quote = λ v e. let z : CR ≡ DQUOTE = heads e in omega arith }

  return_first : {r c : List ℕ} → Field r c → Readable (r ++ CR ∷ w) → ⊥
  return_first h = starts (λ f d u g k e. return_stop k (field_unique h g return_no_field (stop_halts k) e).2)

  pub return_halts : {q : List ℕ} → Readable q → Readable (q ++ CR ∷ w) → ⊥
  return_halts k = (goes_on (CR ∷ w) ⊥ (λ r c h. (return_first h, λ z. absurd z)) k.reading).0
