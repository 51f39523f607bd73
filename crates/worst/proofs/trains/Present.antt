-- Of the leading rows passed those are there that the bits of the way say, one bit for each.
use native.Mathlib.Numerals.{add-one}
use mathlib.Core.Path.{◌≡◌, sym, ◌∙◌, ap}
use Prim.Native.Nat.{ℕ, ◌+◌, ◌/◌, ◌%◌, ◌^◌}
use Rattle.sets.specs.Sets.{bit}
use Rattle.sets.proofs.Bits.{bit_is, next_bits}
use Rattle.worst.specs.steps.Stance.{leading, held_by, next, choosable, join, pick}
use Rattle.worst.proofs.choices.Beside.{leads, leads_not}

-- what the rows passed tell: those that are there, and what is left of the way
pub record Told (leaders way i present rest : ℕ) : Type 0 where
  pub there : present ≡ pick (leading leaders) i way
  pub left : rest ≡ way / 2 ^ choosable (leading leaders) i

module _ (leaders way i : ℕ) {present rest : ℕ} (t : Told leaders way i present rest) where
  -- one that leads, and is there or not
  module _ (l : bit leaders i ≡ 1) where
    onward : rest / 2 ≡ way / 2 ^ choosable (leading leaders) (i + 1)
    unfolding choosable next
    onward = rw (add-one i, leads leaders i l, ← add-one (choosable (leading leaders) i)) (next_bits way (choosable (leading leaders) i) rest t.left)

    pub told_in : rest % 2 ≡ 1 → Told leaders way (i + 1) (present + 2 ^ i) (rest / 2)
    unfolding pick held_by join
    told_in b = record {
      there = rw (add-one i, leads leaders i l, sym (bit_is way (choosable (leading leaders) i) rest t.left) ∙ b) (ap (λ (x : ℕ). x + 2 ^ i) t.there);
      left = onward;
    }

    pub told_out : rest % 2 ≡ 0 → Told leaders way (i + 1) present (rest / 2)
    unfolding pick held_by join
    told_out b = record {
      there = rw (add-one i, leads leaders i l, sym (bit_is way (choosable (leading leaders) i) rest t.left) ∙ b) t.there;
      left = onward;
    }

  -- one that does not lead
  pub told_same : (bit leaders i ≡ 1 → ⊥) → Told leaders way (i + 1) present rest
  unfolding pick held_by join choosable next
  told_same n = record { there = rw (add-one i, leads_not leaders i n) t.there; left = rw (add-one i, leads_not leaders i n) t.left }

pub told_as : {leaders way i p p' r r' : ℕ} → Told leaders way i p r → p' ≡ p → r' ≡ r → Told leaders way i p' r'
told_as t e d = rw (e, d) t
