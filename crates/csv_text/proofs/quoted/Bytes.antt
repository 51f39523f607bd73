-- The byte classes of the grammar, by the tests that decide them.
use Prim.Native.Nat.{ℕ, ◌≤◌}
use native.Mathlib.Decide.{dec_le}
use native.Mathlib.Omega.{arith}
use mathlib.Core.Path.{◌≡◌}
use mathlib.Core.Bool.{Bool, true, false, not, ◌&&◌, ◌||◌}
use lib.Dec.{leb, eqb}
use Rattle.arithmetic.proofs.Cases.{by_cases}
use Rattle.arithmetic.specs.decides.Decides.{Decides}
use Rattle.arithmetic.proofs.Deciding.{decides_at_most, decides_equal}
use Rattle.csv_text.specs.rfc4180.Rfc4180.{COMMA, CR, DQUOTE, LF, Textdata, low, middle, high, Inside, is_text, is_comma, is_cr, is_lf}

-- TEXTDATA is every byte from a blank to a tilde but the quote and the comma
record Printable (b : ℕ) : Type 0 where
  from : 0x20 ≤ b
  to : b ≤ 0x7E
  no_quote : b ≡ DQUOTE → ⊥
  no_comma : b ≡ COMMA → ⊥

printable : {b : ℕ} → Textdata b → Printable b
printable (low h k) = omega arith
printable (middle h k) = omega arith
printable (high h k) = omega arith

text_of : {b : ℕ} → Printable b → Textdata b
text_of {b} h = by_cases (dec_le b 0x21) (low h.from) (λ k. by_cases (dec_le b 0x2B) (middle (omega arith)) (λ l. high (omega arith) h.to))

pub text_decides : (b : ℕ) → Decides (((leb 0x20 b && leb b 0x7E) && not (eqb b DQUOTE)) && not (eqb b COMMA)) (Textdata b)
text_decides b = by (leb 0x20 b) (leb b 0x7E) (eqb b DQUOTE) (eqb b COMMA) (decides_at_most 0x20 b) (decides_at_most b 0x7E) (decides_equal b DQUOTE) (decides_equal b COMMA)
  where
    by : (l h q c : Bool) → Decides l (0x20 ≤ b) → Decides h (b ≤ 0x7E) → Decides q (b ≡ DQUOTE) → Decides c (b ≡ COMMA) → Decides (((l && h) && not q) && not c) (Textdata b)
    by false h q c k m n o = λ t. k (printable t).from
    by true false q c k m n o = λ t. m (printable t).to
    by true true true c k m n o = λ t. (printable t).no_quote n
    by true true false true k m n o = λ t. (printable t).no_comma o
    by true true false false k m n o = text_of (record { from = k; to = m; no_quote = n; no_comma = o })

-- comma, CR and LF stand for themselves between quotes, and so does TEXTDATA
inside_none : {b : ℕ} → (b ≡ COMMA → ⊥) → (b ≡ CR → ⊥) → (b ≡ LF → ⊥) → (Textdata b → ⊥) → Inside b → ⊥
inside_none h k l n (is_comma e) = h e
inside_none h k l n (is_cr e) = k e
inside_none h k l n (is_lf e) = l e
inside_none h k l n (is_text t) = n t

pub inside_decides : (b : ℕ) (t : Bool) → Decides t (Textdata b) → Decides (((eqb b COMMA || eqb b CR) || eqb b LF) || t) (Inside b)
inside_decides b t d = by (eqb b COMMA) (eqb b CR) (eqb b LF) t (decides_equal b COMMA) (decides_equal b CR) (decides_equal b LF) d
  where
    by : (c r l t : Bool) → Decides c (b ≡ COMMA) → Decides r (b ≡ CR) → Decides l (b ≡ LF) → Decides t (Textdata b) → Decides (((c || r) || l) || t) (Inside b)
    by true r l t h k m n = is_comma h
    by false true l t h k m n = is_cr k
    by false false true t h k m n = is_lf m
    by false false false true h k m n = is_text n
    by false false false false h k m n = inside_none h k m n
