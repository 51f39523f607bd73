-- A stretch between quotes that grows at its end, as the loop goes over it.
use Prim.Native.Nat.{ℕ, ◌+◌, ◌≤◌, ◌<◌}
use native.Mathlib.Omega.{arith}
use mathlib.Core.Path.{◌≡◌, sym, ◌∙◌}
use mathlib.Core.List.{List, [], ◌∷◌, ◌++◌, append_assoc}
use lib.Dec.{eqb}
use lib.ListN.{length, get_or, drop}
use Rattle.arithmetic.specs.decides.Decides.{Decides}
use Rattle.arithmetic.proofs.Deciding.{decides_same, decides_equal}
use Rattle.csv_text.specs.rfc4180.Rfc4180.{DQUOTE, Inside, Escaped, empty, byte, doubled}
use Rattle.csv_text.specs.Part.{part}
use Rattle.csv_text.specs.steps.Closing.{FirstByte, EscapedTo}
use Rattle.csv_text.proofs.rfc4180.Unique.{EscapedHalts, closing_halts, escaped_unique}
use Rattle.csv_text.proofs.rfc4180.Parts.{part_none, part_more, part_rest, first_byte_at, first_byte_is, first_byte_lt}

pub escaped_snoc : {s c : List ℕ} {b : ℕ} → Escaped s c → Inside b → Escaped (s ++ b ∷ []) (c ++ b ∷ [])
escaped_snoc empty h = byte h empty
escaped_snoc (byte k p) h = byte k (escaped_snoc p h)
escaped_snoc (doubled p) h = doubled (escaped_snoc p h)

pub doubled_snoc : {s c : List ℕ} → Escaped s c → Escaped (s ++ DQUOTE ∷ DQUOTE ∷ []) (c ++ DQUOTE ∷ [])
doubled_snoc empty = doubled empty
doubled_snoc (byte k p) = byte k (doubled_snoc p)
doubled_snoc (doubled p) = doubled (doubled_snoc p)

-- what stands from a place of the text on begins with the byte that is there
pub first_byte_decides : (s : List ℕ) (i b : ℕ) → i < length s → Decides (eqb (get_or s i 0) b) (FirstByte b (drop i s))
first_byte_decides s i b h =
    decides_same (eqb (get_or s i 0) b) (λ e. record { behind = _; begins = first_byte_at s i b h e }) (λ g. first_byte_is s i b g.behind g.begins) (decides_equal (get_or s i 0) b)

-- what stands between quotes from `at` up to i, with its content
pub record Escape (s : List ℕ) (at i : ℕ) : Type 0 where
  pub content : List ℕ
  pub escaped : Escaped (part at i s) content

module _ (s : List ℕ) (at : ℕ) where
  pub escape_none : Escape s at at
  escape_none = record { content = []; escaped = rw part_none empty }

  pub escape_more : (i : ℕ) → at ≤ i → i < length s → Inside (get_or s i 0) → Escape s at i → Escape s at (i + 1)
  escape_more i h k t p = record { content = p.content ++ get_or s i 0 ∷ []; escaped = rw (part_more s at i h k) (escaped_snoc p.escaped t) }

  -- two quotes
  pub escape_quotes : (i : ℕ) → at ≤ i → i < length s → get_or s i 0 ≡ DQUOTE → FirstByte DQUOTE (drop (i + 1) s) → Escape s at i → Escape s at (i + 2)
  escape_quotes i h k e q p =
      let k' : i + 1 < length s = first_byte_lt s (i + 1) DQUOTE q.behind q.begins in
      let e' : get_or s (i + 1) 0 ≡ DQUOTE = first_byte_is s (i + 1) DQUOTE q.behind q.begins in
      let n : i + 2 ≡ i + 1 + 1 = omega arith in
      let m : part at (i + 2) s ≡ part at i s ++ DQUOTE ∷ DQUOTE ∷ [] =
      rw (n, part_more s at (i + 1) (omega arith) k', part_more s at i h k, e, e', append_assoc (part at i s) (DQUOTE ∷ []) (DQUOTE ∷ [])) in
      record { content = p.content ++ DQUOTE ∷ []; escaped = rw m (doubled_snoc p.escaped) }

  pub escape_closes : (i : ℕ) → at ≤ i → i < length s → get_or s i 0 ≡ DQUOTE → (FirstByte DQUOTE (drop (i + 1) s) → ⊥) → Escape s at i → EscapedTo s at i
  escape_closes i h k e q p = record {
    from = h;
    within = k;
    content = p.content;
    escaped = p.escaped;
    quote = first_byte_at s i DQUOTE k e;
    alone = q;
  }

  -- where what stands between quotes can neither go on nor close, it has no closing quote
  pub never_closes : (i : ℕ) → at ≤ i → ((b : ℕ) → Inside b → FirstByte b (drop i s) → ⊥) → (FirstByte DQUOTE (drop i s) → ⊥) → Escape s at i
      → (r c t : List ℕ) → Escaped r c → (FirstByte DQUOTE t → ⊥) → drop at s ≡ r ++ DQUOTE ∷ t → ⊥
  never_closes i h nb nq p r c t q nt e =
      let ours : EscapedHalts (drop i s) = record {
        no_byte = λ b v k f. nb b k (record { behind = v; begins = f });
        no_quotes = λ v f. nq (record { behind = _; begins = f });
      } in
      let theirs : EscapedHalts (DQUOTE ∷ t) = closing_halts (λ v f. nt (record { behind = v; begins = f })) in
      let u = escaped_unique p.escaped q ours theirs (sym (part_rest s at i h) ∙ e) in
      nq (record { behind = t; begins = u.2 })
