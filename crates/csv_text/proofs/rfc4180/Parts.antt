-- Stretches of a list by index.
use Prim.Native.Nat.{ℕ, suc, ◌+◌, ◌-◌, ◌≤◌, ◌<◌}
use native.Mathlib.Nat.{sub_self}
use native.Mathlib.Numerals.{add-one}
use native.Mathlib.Omega.{arith}
use mathlib.Core.Path.{◌≡◌, sym, ap, ◌∙◌}
use mathlib.Core.List.{List, [], ◌∷◌, ◌++◌}
use lib.ListN.{length, get_or, drop, take-append-drop, length-drop, drop_of_length-le}
use lib.Seq.{take-suc, drop-cons, drop-drop, get_or-drop}
use Rattle.csv_text.specs.Part.{part}
use Rattle.csv_text.proofs.Lists.{nil_cons, heads, tails}

module _ (s : List ℕ) where
  -- what stands at i, and what behind it
  pub at_index : (i : ℕ) → i < length s → drop i s ≡ get_or s i 0 ∷ drop (i + 1) s
  at_index i h = rw (add-one, drop-cons s i 0)

  pub past : (i : ℕ) → length s ≤ i → drop i s ≡ []
  past i h = drop_of_length-le s h

  pub part_none : (at : ℕ) → part at at s ≡ []
  part_none at = rw sub_self

  pub part_more : (at i : ℕ) → at ≤ i → i < length s → part at (i + 1) s ≡ part at i s ++ get_or s i 0 ∷ []
  part_more at i h k =
      let e : i + 1 - at ≡ suc (i - at) = omega arith in
      let l : i - at < length (drop at s) = rw length-drop (omega arith) in
      let d : at + (i - at) ≡ i = omega arith in
      rw (e, take-suc (drop at s) (i - at) 0 l, get_or-drop, d)

  pub part_rest : (at e : ℕ) → at ≤ e → drop at s ≡ part at e s ++ drop e s
  part_rest at e h =
      let d : at + (e - at) ≡ e = omega arith in
      let q : drop (e - at) (drop at s) ≡ drop e s = drop-drop (e - at) at s ∙ ap (λ (n : ℕ). drop n s) d in
      sym (take-append-drop (e - at) (drop at s)) ∙ ap (λ (l : List ℕ). part at e s ++ l) q

  -- what begins with a byte is not past the end
  pub first_byte_lt : (i b : ℕ) (t : List ℕ) → drop i s ≡ b ∷ t → i < length s
  first_byte_lt i b t e = omega (arith, length-drop i s, ap length e)

  pub first_byte_at : (i b : ℕ) → i < length s → get_or s i 0 ≡ b → drop i s ≡ b ∷ drop (i + 1) s
  first_byte_at i b h e = at_index i h ∙ ap (λ (x : ℕ). x ∷ drop (i + 1) s) e

  pub first_byte_is : (i b : ℕ) (t : List ℕ) → drop i s ≡ b ∷ t → get_or s i 0 ≡ b
  first_byte_is i b t e = heads (sym (at_index i (first_byte_lt i b t e)) ∙ e)

  pub first_byte_behind : (i b : ℕ) (t : List ℕ) → drop i s ≡ b ∷ t → drop (i + 1) s ≡ t
  first_byte_behind i b t e = tails (sym (at_index i (first_byte_lt i b t e)) ∙ e)

  pub past_first_byte : (i b : ℕ) (t : List ℕ) → length s ≤ i → drop i s ≡ b ∷ t → ⊥
  past_first_byte i b t h e = nil_cons (sym (past i h) ∙ e)
