-- A plain stretch that grows at its end, as the loop goes over it; and what stands behind a field.
use Prim.Native.Nat.{ℕ, ◌+◌, ◌≤◌, ◌<◌}
use native.Mathlib.Omega.{arith}
use mathlib.Core.Path.{◌≡◌, refl, sym, ap, ◌∙◌}
use mathlib.Core.List.{List, [], ◌∷◌, ◌++◌}
use lib.ListN.{length, get_or, drop}
use Rattle.csv_text.specs.rfc4180.Rfc4180.{COMMA, CR, LF, Textdata, Plain, none, text}
use Rattle.csv_text.specs.steps.FieldAt.{Stop, at_end, at_comma, at_row}
use Rattle.csv_text.specs.Part.{part}
use Rattle.csv_text.specs.steps.Closing.{FirstByte}
use Rattle.csv_text.proofs.Lists.{nil_cons}
use Rattle.csv_text.proofs.rfc4180.Parts.{at_index, part_more, first_byte_at, first_byte_is, first_byte_lt, first_byte_behind}

pub plain_snoc : {s : List ℕ} {b : ℕ} → Plain s → Textdata b → Plain (s ++ b ∷ [])
plain_snoc none h = text h none
plain_snoc (text k p) h = text k (plain_snoc p h)

module _ (s : List ℕ) (at : ℕ) where
  pub plain_more : (i : ℕ) → at ≤ i → i < length s → Textdata (get_or s i 0) → Plain (part at i s) → Plain (part at (i + 1) s)
  plain_more i h k t p = rw (part_more s at i h k) (plain_snoc p t)

-- what stands at e, from its first byte on
pub byte_first : (s : List ℕ) (e b : ℕ) → FirstByte b (drop e s) → drop e s ≡ b ∷ drop (e + 1) s
byte_first s e b g = first_byte_at s e b (first_byte_lt s e b g.behind g.begins) (first_byte_is s e b g.behind g.begins)

pub two_bytes_first : (s : List ℕ) (e a b : ℕ) → FirstByte a (drop e s) × FirstByte b (drop (e + 1) s) → drop e s ≡ a ∷ b ∷ drop (e + 2) s
two_bytes_first s e a b g =
    let m : e + 2 ≡ e + 1 + 1 = omega arith in
    rw m (byte_first s e a g.0 ∙ ap (λ (l : List ℕ). a ∷ l) (byte_first s (e + 1) b g.1))

-- no field's end stands at e
module _ (s : List ℕ) (e : ℕ) (h : e < length s) (nc : FirstByte COMMA (drop e s) → ⊥) (nr : FirstByte CR (drop e s) × FirstByte LF (drop (e + 1) s) → ⊥) where
  no_stop_at : {t : List ℕ} → Stop t → drop e s ≡ t → ⊥
  no_stop_at at_end q = nil_cons (sym q ∙ at_index s e h)
  no_stop_at at_comma q = nc (record { behind = _; begins = q })
  no_stop_at at_row q = nr (record { behind = _; begins = q }, record { behind = _; begins = first_byte_behind s e CR _ q })

  pub no_stop : Stop (drop e s) → ⊥
  no_stop q = no_stop_at q refl
