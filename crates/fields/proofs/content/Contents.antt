-- A content that has no quote in it stands between its field's quotes as it is: the stretch without quotes around it is the content.
use Prim.Native.Nat.{ℕ, ◌+◌, ◌-◌, ◌≤◌, ◌<◌}
use native.Mathlib.Omega.{arith}
use mathlib.Core.Path.{◌≡◌, refl, sym, ap, subst, ◌∙◌}
use mathlib.Core.List.{List, [], ◌∷◌, ◌++◌}
use mathlib.Core.Bool.{true, false, ◌&&◌}
use lib.Dec.{eqb}
use lib.ListN.{length, get_or, drop, length-append}
use lib.Seq.{get_or_at}
use Rattle.arithmetic.proofs.Cases.{impossible}
use Rattle.arithmetic.specs.decides.Decides.{Decides}
use Rattle.arithmetic.proofs.Deciding.{decided, refuted, decides_both, decides_equal}
use Rattle.csv_text.specs.rfc4180.Rfc4180.{DQUOTE, Plain, none, text, is_text, Escaped, empty, byte, doubled, Field, plain, quoted}
use Rattle.csv_text.specs.Part.{part}
use Rattle.csv_text.proofs.Lists.{tails, lasts}
use Rattle.csv_text.proofs.rfc4180.Unique.{text_quote}
use Rattle.csv_text.proofs.rfc4180.Parts.{at_index, past, part_rest}
use Rattle.fields.specs.content.Content.{Bare, between, all}

plain_escaped : {s : List ℕ} → Plain s → Escaped s s
plain_escaped none = empty
plain_escaped (text b p) = byte (is_text b) (plain_escaped p)

escaped_plain : {s c : List ℕ} → Escaped s c → Plain c → s ≡ c
escaped_plain empty none = refl
escaped_plain (byte {b} k p) (text h q) = ap (λ (l : List ℕ). b ∷ l) (escaped_plain p q)
escaped_plain (doubled p) (text h q) = absurd (text_quote h refl)

-- what stands between two quotes is one stretch
pub between_one : {r s : List ℕ} → DQUOTE ∷ r ++ DQUOTE ∷ [] ≡ DQUOTE ∷ s ++ DQUOTE ∷ [] → r ≡ s
between_one {r} {s} e = (lasts r s DQUOTE DQUOTE (tails e)).0

plain_unquoted : {c s : List ℕ} → Plain c → c ≡ DQUOTE ∷ s → ⊥
plain_unquoted none e = impossible cc
plain_unquoted (text h p) e = text_quote h (cc)

-- a plain stretch between quotes, or without them, is a field's content, and no other is
pub bare_field : {raw r : List ℕ} → Plain r → Bare raw r → Field raw r
bare_field {raw} {r} p (between e) = subst (λ (l : List ℕ). Field l r) (sym e) (quoted (plain_escaped p))
bare_field {raw} {r} p (all e n) = subst (λ (l : List ℕ). Field l r) e (plain p)

pub field_bare : {raw r c : List ℕ} → Field raw c → Plain c → Bare raw r → r ≡ c
field_bare (plain p) q (between e) = absurd (plain_unquoted q e)
field_bare (plain p) q (all e n) = e
field_bare (quoted p) q (between e) = between_one (sym e) ∙ escaped_plain p q
field_bare (quoted {s} p) q (all e n) = absurd (n s refl)

-- a form of content that is plain is that of the field exactly if it is that of the stretch
module _ (F : List ℕ → Type 0) (plains : (c : List ℕ) → F c → Plain c) {raw r : List ℕ} (b : Bare raw r) where
  pub content_none : (F r → ⊥) → (c : List ℕ) → Field raw c → F c → ⊥
  content_none n c f h = n (subst F (sym (field_bare f (plains c h) b)) h)

pub nothing : (l : List ℕ) → length l ≡ 0 → l ≡ []
nothing [] h = refl
nothing (b ∷ l) h = absurd (omega arith)

-- by the bytes at both ends
module _ (raw : List ℕ) where
  abbrev first : ℕ
  first = get_or raw 0 0

  abbrev last : ℕ
  last = get_or raw (length raw - 1) 0

  both_quotes : Decides (eqb first DQUOTE && eqb last DQUOTE) ((first ≡ DQUOTE) × (last ≡ DQUOTE))
  both_quotes = decides_both (first ≡ DQUOTE) (last ≡ DQUOTE) (eqb first DQUOTE) (eqb last DQUOTE) (decides_equal first DQUOTE) (decides_equal last DQUOTE)

  pub bare_between : 2 ≤ length raw → eqb first DQUOTE && eqb last DQUOTE ≡ true → Bare raw (part 1 (length raw - 1) raw)
  bare_between h t =
      let n = length raw - 1 in
      let ends = decided (eqb first DQUOTE && eqb last DQUOTE) t both_quotes in
      let front : raw ≡ DQUOTE ∷ drop 1 raw = at_index raw 0 (omega arith) ∙ ap (λ (b : ℕ). b ∷ drop 1 raw) ends.0 in
      let back : drop n raw ≡ DQUOTE ∷ [] =
      at_index raw n (omega arith) ∙ ap (λ (b : ℕ). b ∷ drop (n + 1) raw) ends.1 ∙ ap (λ (l : List ℕ). DQUOTE ∷ l) (past raw (n + 1) (omega arith)) in
      between (front ∙ ap (λ (l : List ℕ). DQUOTE ∷ l) (part_rest raw 1 n (omega arith) ∙ ap (λ (l : List ℕ). part 1 n raw ++ l) back))

  pub bare_short : length raw < 2 → Bare raw raw
  bare_short h = all refl (λ s e. omega (arith, ap length e, length-append s (DQUOTE ∷ [])))

  pub bare_open : eqb first DQUOTE && eqb last DQUOTE ≡ false → Bare raw raw
  bare_open f = all refl (λ s e.
      let k : length (DQUOTE ∷ s) ≡ length raw - 1 = omega (arith, ap length e, length-append s (DQUOTE ∷ [])) in
      refuted (eqb first DQUOTE && eqb last DQUOTE) f both_quotes
      (ap (λ (l : List ℕ). get_or l 0 0) e, ap (λ (l : List ℕ). get_or l (length raw - 1) 0) e ∙ get_or_at (DQUOTE ∷ s) DQUOTE [] 0 (length raw - 1) k))
