-- A text has at most one reading: one list of rows, each field with one raw stretch and one content.
use Prim.Native.Nat.{ℕ}
use native.Mathlib.Omega.{arith}
use mathlib.Core.Path.{◌≡◌, refl, sym, ap, ap₂, ◌∙◌}
use mathlib.Core.List.{List, [], ◌∷◌, ◌++◌, append_assoc, append-nil}
use Rattle.csv_text.proofs.Lists.{nil_cons, heads, tails, conses}
use Rattle.csv_text.specs.rfc4180.Rfc4180.{COMMA, CR, DQUOTE, LF, Textdata, low, middle, high, Plain, none, text, Inside, is_text, is_comma, is_cr, is_lf, Escaped, empty, byte, doubled, Field, plain, quoted, Cell, Record, only, then, File, last, closed, next}
use Rattle.csv_text.specs.steps.FieldAt.{Stop, at_end, at_comma, at_row}

-- a byte of TEXTDATA is none of the four others
pub text_comma : {b : ℕ} → Textdata b → b ≡ COMMA → ⊥
text_comma (low h k) e = omega arith
text_comma (middle h k) e = omega arith
text_comma (high h k) e = omega arith

pub text_quote : {b : ℕ} → Textdata b → b ≡ DQUOTE → ⊥
text_quote (low h k) e = omega arith
text_quote (middle h k) e = omega arith
text_quote (high h k) e = omega arith

pub text_cr : {b : ℕ} → Textdata b → b ≡ CR → ⊥
text_cr (low h k) e = omega arith
text_cr (middle h k) e = omega arith
text_cr (high h k) e = omega arith

pub inside_quote : {b : ℕ} → Inside b → b ≡ DQUOTE → ⊥
inside_quote (is_text t) e = text_quote t e
inside_quote (is_comma h) e = omega arith
inside_quote (is_cr h) e = omega arith
inside_quote (is_lf h) e = omega arith

stop_text : {t u : List ℕ} {b : ℕ} → Stop t → Textdata b → t ≡ b ∷ u → ⊥
stop_text at_end h e = nil_cons e
stop_text at_comma h e = text_comma h (sym (heads e))
stop_text at_row h e = text_cr h (sym (heads e))

pub stop_quote : {t u : List ℕ} → Stop t → t ≡ DQUOTE ∷ u → ⊥
stop_quote at_end e = nil_cons e
stop_quote at_comma e = let z : COMMA ≡ DQUOTE = heads e in omega arith
stop_quote at_row e = let z : CR ≡ DQUOTE = heads e in omega arith

-- no byte of TEXTDATA comes next
abbrev pub PlainHalts : List ℕ → Type 0
PlainHalts t = (b : ℕ) (v : List ℕ) → Textdata b → t ≡ b ∷ v → ⊥

-- no byte that stands for itself comes next, and no two quotes
pub record EscapedHalts (t : List ℕ) : Type 0 where
  pub no_byte : (b : ℕ) (v : List ℕ) → Inside b → t ≡ b ∷ v → ⊥
  pub no_quotes : (v : List ℕ) → t ≡ DQUOTE ∷ DQUOTE ∷ v → ⊥

-- two plain stretches at one place that cannot go on are one
pub plain_unique : {r s t u : List ℕ} → Plain r → Plain s → PlainHalts t → PlainHalts u → r ++ t ≡ s ++ u → (r ≡ s) × (t ≡ u)
plain_unique none none ht hu e = (refl, e)
plain_unique none (text b q) ht hu e = absurd (ht _ _ b e)
plain_unique (text b p) none ht hu e = absurd (hu _ _ b (sym e))
plain_unique (text b p) (text d q) ht hu e =
    let h = plain_unique p q ht hu (tails e) in
    (conses (heads e) h.0, h.1)

-- two stretches between quotes at one place that cannot go on are one, with one content
pub escaped_unique : {r s c d t u : List ℕ} → Escaped r c → Escaped s d → EscapedHalts t → EscapedHalts u → r ++ t ≡ s ++ u → (r ≡ s) × (c ≡ d) × (t ≡ u)
escaped_unique empty empty ht hu e = (refl, refl, e)
escaped_unique empty (byte b q) ht hu e = absurd (ht.no_byte _ _ b e)
escaped_unique empty (doubled q) ht hu e = absurd (ht.no_quotes _ e)
escaped_unique (byte b p) empty ht hu e = absurd (hu.no_byte _ _ b (sym e))
escaped_unique (byte b p) (byte d q) ht hu e =
    let h = escaped_unique p q ht hu (tails e) in
    (conses (heads e) h.0, conses (heads e) h.1, h.2)
escaped_unique (byte b p) (doubled q) ht hu e = absurd (inside_quote b (heads e))
escaped_unique (doubled p) empty ht hu e = absurd (hu.no_quotes _ (sym e))
escaped_unique (doubled p) (byte d q) ht hu e = absurd (inside_quote d (sym (heads e)))
escaped_unique (doubled p) (doubled q) ht hu e =
    let h = escaped_unique p q ht hu (tails (tails e)) in
    (conses refl (conses refl h.0), conses refl h.1, h.2)

pub stop_plain : {t : List ℕ} → Stop t → PlainHalts t
stop_plain h b v k e = stop_text h k e

-- a closing quote, with no quote behind it
pub closing_halts : {t : List ℕ} → ((v : List ℕ) → t ≡ DQUOTE ∷ v → ⊥) → EscapedHalts (DQUOTE ∷ t)
closing_halts h = record { no_byte = λ b v k e. inside_quote k (sym (heads e)); no_quotes = λ v e. h v (tails e) }

-- a plain field does not begin with a quote
pub plain_quote : {s t u : List ℕ} → Plain s → ((v : List ℕ) → t ≡ DQUOTE ∷ v → ⊥) → s ++ t ≡ DQUOTE ∷ u → ⊥
plain_quote none h e = h _ e
plain_quote (text b p) h e = text_quote b (heads e)

-- what stands for a field's end: neither TEXTDATA nor a quote
pub record FieldHalts (t : List ℕ) : Type 0 where
  pub no_text : PlainHalts t
  pub no_quote : (v : List ℕ) → t ≡ DQUOTE ∷ v → ⊥

pub stop_halts : {t : List ℕ} → Stop t → FieldHalts t
stop_halts h = record { no_text = stop_plain h; no_quote = λ v e. stop_quote h e }

-- two fields at one place, each with an end behind it, are one, with one content
pub field_unique : {r s c d t u : List ℕ} → Field r c → Field s d → FieldHalts t → FieldHalts u → r ++ t ≡ s ++ u → (r ≡ s) × (c ≡ d) × (t ≡ u)
field_unique (plain p) (plain q) ht hu e =
    let h = plain_unique p q ht.no_text hu.no_text e in
    (h.0, h.0, h.1)
field_unique (plain p) (quoted q) ht hu e = absurd (plain_quote p ht.no_quote e)
field_unique (quoted p) (plain q) ht hu e = absurd (plain_quote q hu.no_quote (sym e))
field_unique {t} {u} (quoted {s = r} p) (quoted {s} q) ht hu e =
    let e' : r ++ DQUOTE ∷ t ≡ s ++ DQUOTE ∷ u = sym (append_assoc r (DQUOTE ∷ []) t) ∙ tails e ∙ append_assoc s (DQUOTE ∷ []) u in
    let h = escaped_unique p q (closing_halts ht.no_quote) (closing_halts hu.no_quote) e' in
    (ap (λ (x : List ℕ). DQUOTE ∷ x ++ DQUOTE ∷ []) h.0, h.1, tails h.2)

-- a stretch has one content
pub content_unique : {r c d : List ℕ} → Field r c → Field r d → c ≡ d
content_unique p q = (field_unique p q (stop_halts at_end) (stop_halts at_end) refl).1

-- what may follow a row: nothing, or a CRLF
pub data RowStop : List ℕ → Type 0 where
  row_end : RowStop []
  row_row : {t : List ℕ} → RowStop (CR ∷ LF ∷ t)

row_stop : {t : List ℕ} → RowStop t → FieldHalts t
row_stop row_end = stop_halts at_end
row_stop row_row = stop_halts at_row

row_comma : {t u : List ℕ} → RowStop t → t ≡ COMMA ∷ u → ⊥
row_comma row_end e = nil_cons e
row_comma row_row e = let z : CR ≡ COMMA = heads e in omega arith

pub cells : {f g : Cell} → f.raw ≡ g.raw → f.content ≡ g.content → f ≡ g
cells p q = λ i. record { raw = p i; content = q i }

-- two records at one place, each with a row's end behind it, are one
pub record_unique : {s t u v : List ℕ} {fs gs : List Cell} → Record s fs → Record t gs → RowStop u → RowStop v → s ++ u ≡ t ++ v → (fs ≡ gs) × (u ≡ v)
record_unique (only p) (only q) hu hv e =
    let h = field_unique p q (row_stop hu) (row_stop hv) e in
    (ap (λ (f : Cell). f ∷ []) (cells h.0 h.1), h.2)
record_unique {v} (only p) (then {f = g} {s} q qs) hu hv e =
    let h = field_unique p q (row_stop hu) (stop_halts at_comma) (e ∙ append_assoc g.raw (COMMA ∷ s) v) in
    absurd (row_comma hu h.2)
record_unique {u} (then {f} {s} p ps) (only q) hu hv e =
    let h = field_unique p q (stop_halts at_comma) (row_stop hv) (sym (append_assoc f.raw (COMMA ∷ s) u) ∙ e) in
    absurd (row_comma hv (sym h.2))
record_unique {u} {v} (then {f} {s} p ps) (then {f = g} {s = t} q qs) hu hv e =
    let h = field_unique p q (stop_halts at_comma) (stop_halts at_comma) (sym (append_assoc f.raw (COMMA ∷ s) u) ∙ e ∙ append_assoc g.raw (COMMA ∷ t) v) in
    let k = record_unique ps qs hu hv (tails h.2) in
    (ap₂ (λ (x : Cell) (xs : List Cell). x ∷ xs) (cells h.0 h.1) k.0, k.1)

-- one text, one reading
pub file_unique : {s t : List ℕ} {rs qs : List (List Cell)} → File s rs → File t qs → s ≡ t → rs ≡ qs
file_unique {s} {t} (last p) (last q) e =
    ap (λ (x : List Cell). x ∷ []) (record_unique p q row_end row_end (append-nil s ∙ e ∙ sym (append-nil t))).0
file_unique {s} (last p) (closed q) e = absurd (nil_cons (record_unique p q row_end row_row (append-nil s ∙ e)).1)
file_unique {s} (last p) (next q n qs) e = absurd (nil_cons (record_unique p q row_end row_row (append-nil s ∙ e)).1)
file_unique {t} (closed p) (last q) e = absurd (nil_cons (sym (record_unique p q row_row row_end (e ∙ sym (append-nil t))).1))
file_unique (closed p) (closed q) e = ap (λ (x : List Cell). x ∷ []) (record_unique p q row_row row_row e).0
file_unique (closed p) (next q n qs) e = absurd (n (sym (tails (tails (record_unique p q row_row row_row e).1))))
file_unique {t} (next p m ps) (last q) e = absurd (nil_cons (sym (record_unique p q row_row row_end (e ∙ sym (append-nil t))).1))
file_unique (next p m ps) (closed q) e = absurd (m (tails (tails (record_unique p q row_row row_row e).1)))
file_unique (next p m ps) (next q n qs) e =
    let h = record_unique p q row_row row_row e in
    ap₂ (λ (x : List Cell) (xs : List (List Cell)). x ∷ xs) h.0 (file_unique ps qs (tails (tails h.1)))
