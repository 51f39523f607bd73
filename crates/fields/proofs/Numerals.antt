-- Numbers by their digits, and fields that hold them.
use Prim.Native.Nat.{ℕ, suc, ◌-◌, ◌<◌, suc-le-suc, zero-le}
use native.Mathlib.Omega.{arith}
use mathlib.Core.Path.{◌≡◌, refl, sym, ap, subst, ◌∙◌}
use mathlib.Core.List.{List, [], ◌∷◌}
use lib.ListN.{length, get_or, take, drop}
use lib.Seq.{take_all}
use Rattle.csv_text.proofs.Lists.{tails}
use Rattle.csv_text.specs.rfc4180.Rfc4180.{high, Plain, none, text}
use Rattle.fields.specs.digits.Numerals.{Digited}
use Rattle.fields.proofs.digits.Numerals.{Digit, numeral_some, numeral_digit, numeral_unique}
use Rattle.fields.specs.content.Content.{Bare}
use Rattle.fields.specs.Numbers.{positive, negative, IsNumber, is_positive, is_negative, IsEmpty}
use Rattle.fields.specs.Entries.{EntryAt}
use Rattle.fields.specs.declared.Entry.{Entry}
use Rattle.std.specs.Prelude.{Option, Some, None}
use Rattle.fields.proofs.content.Contents.{bare_field, content_none}

-- no number begins with a minus but a negative one
minus_digits : {s : List ℕ} {n : ℕ} → Digited s n → get_or s 0 0 ≡ 0x2D → ⊥
minus_digits d e = let h = numeral_digit d.numeral 0 (numeral_some d.numeral) in omega arith

-- what stands behind a first minus
pub behind_minus : (b : List ℕ) → 0 < length b → get_or b 0 0 ≡ 0x2D → b ≡ 0x2D ∷ take (length b - 1) (drop 1 b)
behind_minus [] h e = absurd (omega arith)
behind_minus (x ∷ b) h e = rw (e, take_all (suc (length b) - 1) b (omega arith))

-- a content that begins with a minus, and one that does not
module _ (b : List ℕ) where
  pub signed_number : (s : List ℕ) → b ≡ 0x2D ∷ s → (n : ℕ) → Digited s n → (n ≡ 0 → ⊥) → IsNumber b (negative n)
  signed_number s f n d z = is_negative f d (omega arith) refl

  pub no_signed_number : (s : List ℕ) → b ≡ 0x2D ∷ s → ((n : ℕ) → Digited s n → n ≡ 0) → (e : Entry) → IsNumber b e → ⊥
  no_signed_number s f w e (is_positive d q) = minus_digits d (ap (λ (x : List ℕ). get_or x 0 0) f)
  no_signed_number s f w e (is_negative {n = n} g d l q) = let h = w n (subst (λ (x : List ℕ). Digited x n) (tails (sym g ∙ f)) d) in omega arith

  pub no_number : (0 < length b → get_or b 0 0 ≡ 0x2D → ⊥) → ((n : ℕ) → Digited b n → ⊥) → (e : Entry) → IsNumber b e → ⊥
  no_number g w e (is_positive d q) = w _ d
  no_number g w e (is_negative f d l q) = g (rw f (omega arith)) (ap (λ (x : List ℕ). get_or x 0 0) f)

-- a content is one number at most
pub number_unique : {s : List ℕ} {a b : Entry} → IsNumber s a → IsNumber s b → a ≡ b
number_unique (is_positive d p) (is_positive g q) = p ∙ ap positive (numeral_unique d.numeral g.numeral refl) ∙ sym q
number_unique (is_positive d p) (is_negative f g l q) = absurd (minus_digits d (ap (λ (x : List ℕ). get_or x 0 0) f))
number_unique (is_negative f d l p) (is_positive g q) = absurd (minus_digits g (ap (λ (x : List ℕ). get_or x 0 0) f))
number_unique (is_negative f d l p) (is_negative h g k q) = p ∙ ap negative (numeral_unique d.numeral g.numeral (tails (sym f ∙ h))) ∙ sym q

-- a number has no quote in it
digits_plain : (s : List ℕ) → ((k : ℕ) → k < length s → Digit (get_or s k 0)) → Plain s
digits_plain [] h = none
digits_plain (b ∷ s) h =
    let d = h 0 (suc-le-suc zero-le) in
    let f = d.from in
    let t = d.to in
    text {b = b} (high (omega arith) (omega arith)) (digits_plain s (λ k l. h (suc k) (suc-le-suc l)))

pub number_plain : (e : Entry) (c : List ℕ) → IsNumber c e → Plain c
number_plain e c (is_positive d q) = digits_plain c (numeral_digit d.numeral)
number_plain e c (is_negative {s} f d l q) = rw f (text {b = 0x2D} (high (omega arith) (omega arith)) (digits_plain s (numeral_digit d.numeral)))

empty_plain : (e : Entry) (c : List ℕ) → IsEmpty c e → Plain c
empty_plain e c h = rw h.0 none

-- the answer for a content
abbrev pub ContentIs : (List ℕ → Entry → Type 0) → List ℕ → Option Entry → Type 0
ContentIs F c (Some e) = F c e
ContentIs F c None = (e : Entry) → F c e → ⊥

-- a field has a form exactly if the stretch between its quotes has it
entry_field : (F : List ℕ → Entry → Type 0) → ((e : Entry) (c : List ℕ) → F c e → Plain c) → {raw r : List ℕ} → Bare raw r → (a : Option Entry) → ContentIs F r a → EntryAt F raw a
entry_field F plains {raw} {r} h (Some e) w = record { content = r; field = bare_field (plains e r w) h; is = w }
entry_field F plains h None w = λ e q. content_none (λ c. F c e) (plains e) h (w e) q.content q.field q.is

pub number_field : {raw r : List ℕ} → Bare raw r → (a : Option Entry) → ContentIs IsNumber r a → EntryAt IsNumber raw a
number_field h a w = entry_field IsNumber number_plain h a w

pub empty_field : {raw r : List ℕ} → Bare raw r → (a : Option Entry) → ContentIs IsEmpty r a → EntryAt IsEmpty raw a
empty_field h a w = entry_field IsEmpty empty_plain h a w
