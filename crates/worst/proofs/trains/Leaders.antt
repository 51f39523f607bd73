-- A set with a row, and the leaders among the rows passed, row by row.
use mathlib.Core.Path.{◌≡◌, sym, ◌∙◌, ap, subst, subst⁻¹}
use Prim.Native.Nat.{ℕ, suc, ◌+◌, ◌^◌, ◌<◌}
use native.Mathlib.Omega.{arith}
use native.Mathlib.Decide.{ℕ_discrete, dec_lt}
use lib.Pow.{pow_pos}
use borrow.Author.Tests.{eq-eqb, ne_eqb}
use Rattle.arithmetic.proofs.Cases.{by_cases}
use Rattle.sets.specs.declared.Combination.{Combination}
use Rattle.sets.specs.declared.Loads.{Loads}
use Rattle.sets.specs.Sets.{bit, row, Acts}
use Rattle.sets.proofs.Bits.{bit_not_one, bit_above, added_own, added_others, added_low}
use Rattle.worst.specs.steps.Trains.{with_row, LeadersIs}

-- ---- a set with a row
module _ (s j : ℕ) where
  pub with_had : bit s j ≡ 1 → with_row s j ≡ s
  unfolding with_row
  with_had e = rw (eq-eqb (bit s j) 1 e)

  pub with_added : (bit s j ≡ 1 → ⊥) → with_row s j ≡ s + 2 ^ j
  unfolding with_row
  with_added n = rw (ne_eqb (bit s j) 1 n)

  with_own : bit (with_row s j) j ≡ 1
  with_own =
      by_cases (ℕ_discrete (bit s j) 1) (λ e. ap (λ (x : ℕ). bit x j) (with_had e) ∙ e)
      (λ n. ap (λ (x : ℕ). bit x j) (with_added n) ∙ added_own s j (bit_not_one s j n))

  with_others : (i : ℕ) → (i ≡ j → ⊥) → bit (with_row s j) i ≡ bit s i
  with_others i d =
      by_cases (ℕ_discrete (bit s j) 1) (λ e. ap (λ (x : ℕ). bit x i) (with_had e))
      (λ n. ap (λ (x : ℕ). bit x i) (with_added n) ∙ added_others s i j (bit_not_one s j n) d)

  pub with_low : j < 16 → s < 65536 → with_row s j < 65536
  with_low l h =
      by_cases (ℕ_discrete (bit s j) 1) (λ e. subst⁻¹ (λ (x : ℕ). x < 65536) (with_had e) h)
      (λ n. subst⁻¹ (λ (x : ℕ). x < 65536) (with_added n) (added_low s j 16 l h (bit_not_one s j n)))

-- ---- the leaders of the first n rows
module _ (combination : Combination) (loads : Loads) where
  pub leaders_none : LeadersIs combination loads 0 0
  leaders_none =
      record {
        acts = λ m e. absurd (omega (arith, e, bit_above 0 m (pow_pos m)));
        named = λ m e. absurd (omega (arith, e, bit_above 0 m (pow_pos m)));
        leads = λ i m h. absurd (omega arith);
      }

  module _ (n leaders : ℕ) (p : LeadersIs combination loads n leaders) where
    -- a row that brings no leader: it names none, or what it names does not act
    pub leaders_same : ((m : ℕ) → (row loads n).train ≡ suc m → Acts combination (row loads m).phase → ⊥) → LeadersIs combination loads (n + 1) leaders
    leaders_same none =
        record {
          acts = p.acts;
          named = λ m e. let w = p.named m e in (w.0, omega (arith, w.1), w.2);
          leads = λ i m h t a. by_cases (dec_lt i n) (λ l. p.leads i m l t a)
              (λ l. let e : i ≡ n = omega arith in absurd (none m (subst (λ (j : ℕ). (row loads j).train ≡ suc m) e t) a));
        }

    -- and one whose train acts
    pub leaders_more : (j : ℕ) → (row loads n).train ≡ suc j → Acts combination (row loads j).phase → LeadersIs combination loads (n + 1) (with_row leaders j)
    leaders_more j t acting =
        record {
          acts = λ m e. by_cases (ℕ_discrete m j) (λ d. subst⁻¹ (λ (x : ℕ). Acts combination (row loads x).phase) d acting) (λ d. p.acts m (sym (with_others leaders j m d) ∙ e));
          named = λ m e. by_cases (ℕ_discrete m j) (λ d. (n, omega arith, t ∙ ap suc (sym d)))
              (λ d. let w = p.named m (sym (with_others leaders j m d) ∙ e) in (w.0, omega (arith, w.1), w.2));
          leads = λ i m h u a. by_cases (ℕ_discrete m j) (λ d. subst⁻¹ (λ (x : ℕ). bit (with_row leaders j) x ≡ 1) d (with_own leaders j))
              (λ d. with_others leaders j m d ∙ by_cases (dec_lt i n) (λ l. p.leads i m l u a)
              (λ l. let e : i ≡ n = omega arith in absurd (d (same (sym u ∙ ap (λ (x : ℕ). (row loads x).train) e ∙ t)))));
        }
      where
        same : {x y : ℕ} → suc x ≡ suc y → x ≡ y
        same e = omega arith
