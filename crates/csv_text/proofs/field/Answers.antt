-- What `field_end` promises is met by one answer only.
use Prim.Native.Nat.{ℕ, ◌-◌}
use native.Mathlib.Nat.{le_refl}
use native.Mathlib.Omega.{arith}
use mathlib.Core.Path.{◌≡◌, refl, sym, ap, subst, ◌∙◌}
use mathlib.Core.List.{List}
use lib.ListN.{length, drop}
use Rattle.csv_text.specs.rfc4180.Rfc4180.{COMMA, CR}
use Rattle.csv_text.specs.Part.{part}
use Rattle.csv_text.specs.steps.FieldAt.{FieldTo, FieldAt, Stop, at_end, at_comma, at_row}
use Rattle.csv_text.specs.declared.field.Ended.{Ended}
use Rattle.std.specs.Prelude.{Option, Some, None}
use Rattle.csv_text.specs.declared.field.Ended.TheVariants.{Comma, Row, End}
use Rattle.csv_text.proofs.Lists.{nil_cons, heads}
use Rattle.csv_text.proofs.rfc4180.Unique.{stop_halts, field_unique}
use Rattle.csv_text.proofs.rfc4180.Parts.{part_rest, past}
use Rattle.csv_text.proofs.quoted.Answers.{part_length}

module _ (s : List ℕ) (at : ℕ) where
  -- two fields at one place end at one place
  one_end : (e d : ℕ) → FieldTo s at e → FieldTo s at d → Stop (drop e s) → Stop (drop d s) → e ≡ d
  one_end e d p q h k =
      let u = field_unique p.field q.field (stop_halts h) (stop_halts k) (sym (part_rest s at e p.from) ∙ part_rest s at d q.from) in
      let n : e - at ≡ d - at = sym (part_length s at e p.within) ∙ ap length u.0 ∙ part_length s at d q.within in
      let f = p.from in
      let g = q.from in
      omega arith

  stops : {l t : List ℕ} → Stop t → l ≡ t → Stop l
  stops h e = subst Stop (sym e) h

  end_stops : Stop (drop (length s) s)
  end_stops = stops at_end (past s (length s) (le_refl (length s)))

  not_here : {e : ℕ} {t : List ℕ} → Stop t → FieldTo s at e → drop e s ≡ t → FieldAt s at None → ⊥
  not_here {e} h p k b = b (part at e s) p.content (drop e s) p.field (stops h k) (part_rest s at e p.from)

  comma_row : (e d : ℕ) → FieldAt s at (Some (Comma e)) → FieldAt s at (Some (Row d)) → ⊥
  comma_row e d p q =
      let n = one_end e d p.0 q.0 (stops at_comma p.1) (stops at_row q.1) in
      let z : COMMA ≡ CR = heads (sym p.1 ∙ ap (λ (i : ℕ). drop i s) n ∙ q.1) in
      omega arith

  comma_end : (e : ℕ) → FieldAt s at (Some (Comma e)) → FieldAt s at (Some End) → ⊥
  comma_end e p q =
      let n = one_end e (length s) p.0 q (stops at_comma p.1) end_stops in
      nil_cons (sym (past s e (omega arith)) ∙ p.1)

  row_end : (e : ℕ) → FieldAt s at (Some (Row e)) → FieldAt s at (Some End) → ⊥
  row_end e p q =
      let n = one_end e (length s) p.0 q (stops at_row p.1) end_stops in
      nil_cons (sym (past s e (omega arith)) ∙ p.1)

  end_bad : FieldAt s at (Some End) → FieldAt s at None → ⊥
  end_bad p b = not_here at_end p (past s (length s) (le_refl (length s))) b

  pub field_end_one : (a b : Option Ended) → FieldAt s at a → FieldAt s at b → a ≡ b
  field_end_one (Some (Comma e)) (Some (Comma d)) p q = ap (λ (e : ℕ). Some (Comma e)) (one_end e d p.0 q.0 (stops at_comma p.1) (stops at_comma q.1))
  field_end_one (Some (Comma e)) (Some (Row d)) p q = absurd (comma_row e d p q)
  field_end_one (Some (Comma e)) (Some End) p q = absurd (comma_end e p q)
  field_end_one (Some (Comma e)) None p q = absurd (not_here at_comma p.0 p.1 q)
  field_end_one (Some (Row e)) (Some (Comma d)) p q = absurd (comma_row d e q p)
  field_end_one (Some (Row e)) (Some (Row d)) p q = ap (λ (e : ℕ). Some (Row e)) (one_end e d p.0 q.0 (stops at_row p.1) (stops at_row q.1))
  field_end_one (Some (Row e)) (Some End) p q = absurd (row_end e p q)
  field_end_one (Some (Row e)) None p q = absurd (not_here at_row p.0 p.1 q)
  field_end_one (Some End) (Some (Comma d)) p q = absurd (comma_end d q p)
  field_end_one (Some End) (Some (Row d)) p q = absurd (row_end d q p)
  field_end_one (Some End) (Some End) p q = refl
  field_end_one (Some End) None p q = absurd (end_bad p q)
  field_end_one None (Some (Comma d)) p q = absurd (not_here at_comma q.0 q.1 p)
  field_end_one None (Some (Row d)) p q = absurd (not_here at_row q.0 q.1 p)
  field_end_one None (Some End) p q = absurd (end_bad q p)
  field_end_one None None p q = refl
