-- What `closing` promises is met by one answer only.
use Prim.Native.Nat.{ℕ, ◌-◌, ◌+◌, ◌≤◌}
use native.Mathlib.Omega.{arith}
use mathlib.Core.Path.{◌≡◌, refl, sym, ap, ◌∙◌}
use mathlib.Core.List.{List, ◌∷◌, ◌++◌}
use lib.ListN.{length, drop, length-drop}
use lib.Seq.{length-take-le}
use Rattle.csv_text.specs.rfc4180.Rfc4180.{DQUOTE}
use Rattle.csv_text.specs.Part.{part}
use Rattle.csv_text.proofs.rfc4180.Unique.{EscapedHalts, closing_halts, escaped_unique}
use Rattle.csv_text.proofs.rfc4180.Parts.{part_rest}
use Rattle.csv_text.specs.steps.Closing.{EscapedTo, ClosedAt}
use Rattle.std.specs.Prelude.{Option, Some, None}

module _ (s : List ℕ) (at : ℕ) where
  pub part_length : (e : ℕ) → e ≤ length s → length (part at e s) ≡ e - at
  part_length e h = length-take-le (e - at) (drop at s) (rw length-drop (omega arith))

  -- what stands up to a closing quote, the quote, and what stands behind it
  closed : (e : ℕ) → EscapedTo s at e → drop at s ≡ part at e s ++ DQUOTE ∷ drop (e + 1) s
  closed e p = part_rest s at e p.from ∙ ap (λ (l : List ℕ). part at e s ++ l) p.quote

  halts : (e : ℕ) → EscapedTo s at e → EscapedHalts (DQUOTE ∷ drop (e + 1) s)
  halts e p = closing_halts (λ v f. p.alone (record { behind = v; begins = f }))

  one_quote : (e d : ℕ) → EscapedTo s at e → EscapedTo s at d → e ≡ d
  one_quote e d p q =
      let u = escaped_unique p.escaped q.escaped (halts e p) (halts d q) (sym (closed e p) ∙ closed d q) in
      let f = p.from in
      let g = q.from in
      let k = p.within in
      let l = q.within in
      let n : e - at ≡ d - at = sym (part_length e (omega arith)) ∙ ap length u.0 ∙ part_length d (omega arith) in
      omega arith

  not_unclosed : (e : ℕ) → EscapedTo s at e → ClosedAt s at None → ⊥
  not_unclosed e p h = h (part at e s) p.content (drop (e + 1) s) p.escaped p.alone (closed e p)

  pub closing_one : (a b : Option ℕ) → ClosedAt s at a → ClosedAt s at b → a ≡ b
  closing_one (Some e) (Some d) p q = ap Some (one_quote e d p q)
  closing_one (Some e) None p q = absurd (not_unclosed e p q)
  closing_one None (Some d) p q = absurd (not_unclosed d q p)
  closing_one None None p q = refl
