-- From one field's start to the next: a text is readable from the one exactly if it is from the other.
use Prim.Native.Nat.{ℕ, ◌+◌, ◌≤◌, ◌<◌}
use native.Mathlib.Nat.{le_refl}
use native.Mathlib.Omega.{arith}
use mathlib.Core.Path.{◌≡◌, ap, ◌∙◌}
use mathlib.Core.Logic.{◌↔◌}
use mathlib.Core.List.{List, ◌∷◌, ◌++◌, append-nil}
use lib.ListN.{length, drop, length-drop}
use Rattle.csv_text.specs.rfc4180.Rfc4180.{COMMA, CR, LF, Readable}
use Rattle.csv_text.specs.Part.{part}
use Rattle.csv_text.specs.steps.FieldAt.{FieldAt}
use Rattle.std.specs.Prelude.{Some, None}
use Rattle.csv_text.specs.declared.field.Ended.TheVariants.{Comma, Row, End}
use Rattle.csv_text.proofs.rfc4180.First.{comma_readable, row_readable, end_readable, starts}
use Rattle.csv_text.proofs.rfc4180.Parts.{part_rest, past}

pub record FieldStep (s : List ℕ) (at next : ℕ) : Type 0 where
  pub on : at < next
  pub within : next ≤ length s
  pub same : Readable (drop at s) ↔ Readable (drop next s)

module _ (s : List ℕ) (at : ℕ) where
  pub step_comma : (e : ℕ) → FieldAt s at (Some (Comma e)) → FieldStep s at (e + 1)
  step_comma e h =
      let f = h.0.from in
      let w : drop at s ≡ part at e s ++ COMMA ∷ drop (e + 1) s = part_rest s at e f ∙ ap (λ (l : List ℕ). part at e s ++ l) h.1 in
      record {
        on = omega arith;
        within = omega (arith, length-drop e s, ap length h.1);
        same = rw w (comma_readable h.0.field (drop (e + 1) s));
      }

  pub step_row : (e : ℕ) → FieldAt s at (Some (Row e)) → FieldStep s at (e + 2)
  step_row e h =
      let f = h.0.from in
      let w : drop at s ≡ part at e s ++ CR ∷ LF ∷ drop (e + 2) s = part_rest s at e f ∙ ap (λ (l : List ℕ). part at e s ++ l) h.1 in
      record {
        on = omega arith;
        within = omega (arith, length-drop e s, ap length h.1);
        same = rw w (row_readable h.0.field (drop (e + 2) s));
      }

  pub step_end : FieldAt s at (Some End) → Readable (drop at s)
  step_end h =
      let n = length s in
      let w : drop at s ≡ part at n s =
      part_rest s at n h.from ∙ ap (λ (l : List ℕ). part at n s ++ l) (past s n (le_refl n)) ∙ append-nil (part at n s) in
      rw w (end_readable h.field)

  pub step_bad : FieldAt s at None → Readable (drop at s) → ⊥
  step_bad h = starts h
