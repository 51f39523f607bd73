-- A field that the loops found ends where every field there does that something may follow.
use Prim.Native.Nat.{ℕ, suc, ◌+◌, ◌-◌}
use native.Mathlib.Omega.{arith}
use mathlib.Core.Path.{◌≡◌, sym, ap, subst, ◌∙◌}
use mathlib.Core.List.{List, [], ◌∷◌, ◌++◌, append_assoc}
use lib.ListN.{get_or, drop}
use Rattle.csv_text.specs.rfc4180.Rfc4180.{DQUOTE, Escaped, plain, quoted}
use Rattle.csv_text.specs.Part.{part}
use Rattle.csv_text.specs.steps.Closing.{FirstByte, EscapedTo}
use Rattle.csv_text.specs.steps.FieldAt.{PlainTo, FieldTo, Stop, Follows, EndsAt, NoField}
use Rattle.csv_text.proofs.Lists.{tails}
use Rattle.csv_text.proofs.rfc4180.Unique.{plain_unique, escaped_unique, closing_halts, plain_quote, stop_quote, stop_plain}
use Rattle.csv_text.proofs.rfc4180.Parts.{part_more, part_rest, first_byte_is, first_byte_behind}
use Rattle.csv_text.proofs.field.Scan.{byte_first}

module _ (s : List ℕ) (at : ℕ) where
  pub not_followed : (e : ℕ) → EndsAt s at e → (Stop (drop e s) → ⊥) → NoField s at
  not_followed e f h = λ q d u g k m. h (subst Stop (sym (f.follows q d u g k m)) k)

  -- a plain field
  module _ (nq : FirstByte DQUOTE (drop at s) → ⊥) (e : ℕ) (p : PlainTo s at e) where
    plain_field : FieldTo s at e
    plain_field = record { from = p.from; within = p.within; content = part at e s; field = plain p.all }

    plain_follows : Follows s at e
    plain_follows q d u (plain g) k m =
        (plain_unique p.all g (λ b v t f. p.halts b t (record { behind = v; begins = f })) (stop_plain k) (sym (part_rest s at e p.from) ∙ m)).1
    plain_follows q d u (quoted g) k m = absurd (nq (record { behind = _; begins = m }))

    pub plain_ends : EndsAt s at e
    plain_ends = record { field = plain_field; follows = plain_follows }

  -- a quoted field
  module _ (bq : FirstByte DQUOTE (drop at s)) (i : ℕ) (p : EscapedTo s (at + 1) i) where
    opening : drop at s ≡ DQUOTE ∷ drop (at + 1) s
    opening = byte_first s at DQUOTE bq

    stretch : part at (i + 1) s ≡ DQUOTE ∷ part (at + 1) i s ++ DQUOTE ∷ []
    stretch =
        let f = p.from in
        let n : i - at ≡ suc (i - (at + 1)) = omega arith in
        let first : part at i s ≡ DQUOTE ∷ part (at + 1) i s = rw (n, opening) in
        let q : get_or s i 0 ≡ DQUOTE = first_byte_is s i DQUOTE (drop (i + 1) s) p.quote in
        part_more s at i (omega arith) p.within ∙ rw (first, q)

    quoted_field : FieldTo s at (i + 1)
    quoted_field =
        let f = p.from in
        let w = p.within in
        record { from = omega arith; within = omega arith; content = p.content; field = rw stretch (quoted p.escaped) }

    all : drop at s ≡ DQUOTE ∷ part (at + 1) i s ++ DQUOTE ∷ drop (i + 1) s
    all = opening ∙ ap (λ (l : List ℕ). DQUOTE ∷ l) (part_rest s (at + 1) i p.from ∙ ap (λ (l : List ℕ). part (at + 1) i s ++ l) p.quote)

    quoted_follows : Follows s at (i + 1)
    quoted_follows q d u (plain g) k m = absurd (plain_quote g (λ v f. stop_quote k f) (sym m ∙ all))
    quoted_follows q d u (quoted {s = r} g) k m =
        tails
        (escaped_unique p.escaped g (closing_halts (λ v f. p.alone (record { behind = v; begins = f }))) (closing_halts (λ v f. stop_quote k f))
        (tails (sym all ∙ m) ∙ append_assoc r (DQUOTE ∷ []) u)).2

    pub quoted_ends : EndsAt s at (i + 1)
    quoted_ends = record { field = quoted_field; follows = quoted_follows }

  -- a quote that nothing closes
  pub unclosed : FirstByte DQUOTE (drop at s)
      → ((r c t : List ℕ) → Escaped r c → (FirstByte DQUOTE t → ⊥) → drop (at + 1) s ≡ r ++ DQUOTE ∷ t → ⊥)
      → NoField s at
  unclosed bq h r c t (plain g) k m = plain_quote g (λ v f. stop_quote k f) (sym m ∙ bq.begins)
  unclosed bq h r c t (quoted {s = x} g) k m =
      h x c t g (λ b. stop_quote k b.begins) (first_byte_behind s at DQUOTE _ m ∙ append_assoc x (DQUOTE ∷ []) t)
