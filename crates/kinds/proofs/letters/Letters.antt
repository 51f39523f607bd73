-- How kinds are written: no two alike, and with no quote in them, so that a field is a kind exactly if the stretch between its quotes is.
use Prim.Native.Nat.{ℕ, ◌+◌, ◌*◌}
use native.Mathlib.Omega.{arith}
use mathlib.Core.Path.{◌≡◌, refl, sym, ap, subst, ◌∙◌}
use mathlib.Core.Bool.{cond}
use mathlib.Core.List.{List, [], ◌∷◌}
use lib.Dec.{eqb}
use Rattle.csv_text.specs.rfc4180.Rfc4180.{Textdata, high, Plain, none, text, Field}
use Rattle.fields.specs.content.Content.{Bare}
use Rattle.fields.proofs.content.Contents.{bare_field, field_bare}
use Rattle.kinds.specs.Table.{letters}
use Rattle.kinds.specs.letters.Form.{KindIs, KindAt}
use Rattle.kinds.specs.declared.Kind.{Kind}
use Rattle.kinds.specs.declared.Kind.TheVariants.{B, S, C, E, W, G, DL, EP, LL, LF, CF, WC, BU, TM, EX, WL, SF}
use Rattle.std.specs.Prelude.{Option, Some, None}

-- letters as one number, behind n, and the kind that a number stands for
abbrev pub coded : ℕ → List ℕ → ℕ
coded n [] = n
coded n (a ∷ l) = coded (n * 256 + a) l

unfoldable kind_by : ℕ → Kind
kind_by n =
    cond (eqb n 0x142) B (
    cond (eqb n 0x153) S (
    cond (eqb n 0x143) C (
    cond (eqb n 0x145) E (
    cond (eqb n 0x157) W (
    cond (eqb n 0x147) G (
    cond (eqb n 0x1444C) DL (
    cond (eqb n 0x14550) EP (
    cond (eqb n 0x14C4C) LL (
    cond (eqb n 0x14C46) LF (
    cond (eqb n 0x14346) CF (
    cond (eqb n 0x15743) WC (
    cond (eqb n 0x14255) BU (
    cond (eqb n 0x1544D) TM (
    cond (eqb n 0x14558) EX (
    cond (eqb n 0x1574C) WL (
    cond (eqb n 0x15346) SF (
    B)))))))))))))))))

decoded : (k : Kind) → kind_by (coded 1 (letters k)) ≡ k
unfolding kind_by
decoded B = refl
decoded S = refl
decoded C = refl
decoded E = refl
decoded W = refl
decoded G = refl
decoded DL = refl
decoded EP = refl
decoded LL = refl
decoded LF = refl
decoded CF = refl
decoded WC = refl
decoded BU = refl
decoded TM = refl
decoded EX = refl
decoded WL = refl
decoded SF = refl

pub letters_one : (a b : Kind) → letters a ≡ letters b → a ≡ b
letters_one a b e = sym (decoded a) ∙ ap (λ (l : List ℕ). kind_by (coded 1 l)) e ∙ decoded b

one_plain : {a : ℕ} → Textdata a → Plain (a ∷ [])
one_plain p = text p none

two_plain : {a b : ℕ} → Textdata a → Textdata b → Plain (a ∷ b ∷ [])
two_plain p q = text p (one_plain q)

pub kind_plain : (k : Kind) → Plain (letters k)
kind_plain B = one_plain (high (omega arith) (omega arith))
kind_plain S = one_plain (high (omega arith) (omega arith))
kind_plain C = one_plain (high (omega arith) (omega arith))
kind_plain E = one_plain (high (omega arith) (omega arith))
kind_plain W = one_plain (high (omega arith) (omega arith))
kind_plain G = one_plain (high (omega arith) (omega arith))
kind_plain DL = two_plain (high (omega arith) (omega arith)) (high (omega arith) (omega arith))
kind_plain EP = two_plain (high (omega arith) (omega arith)) (high (omega arith) (omega arith))
kind_plain LL = two_plain (high (omega arith) (omega arith)) (high (omega arith) (omega arith))
kind_plain LF = two_plain (high (omega arith) (omega arith)) (high (omega arith) (omega arith))
kind_plain CF = two_plain (high (omega arith) (omega arith)) (high (omega arith) (omega arith))
kind_plain WC = two_plain (high (omega arith) (omega arith)) (high (omega arith) (omega arith))
kind_plain BU = two_plain (high (omega arith) (omega arith)) (high (omega arith) (omega arith))
kind_plain TM = two_plain (high (omega arith) (omega arith)) (high (omega arith) (omega arith))
kind_plain EX = two_plain (high (omega arith) (omega arith)) (high (omega arith) (omega arith))
kind_plain WL = two_plain (high (omega arith) (omega arith)) (high (omega arith) (omega arith))
kind_plain SF = two_plain (high (omega arith) (omega arith)) (high (omega arith) (omega arith))

pub kind_field : {raw r : List ℕ} → Bare raw r → (a : Option Kind) → KindIs r a → KindAt raw a
kind_field {raw} {r} h (Some k) e = subst (λ (c : List ℕ). Field raw c) e (bare_field (subst Plain (sym e) (kind_plain k)) h)
kind_field h None n = λ k f. n k (field_bare f (kind_plain k) h)
