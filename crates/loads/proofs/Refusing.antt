-- The lowest of the numbers that are shown, with another that is shown or not.
use Rattle.std.proofs.Common.{◌≡◌, refl, ◌⊎◌, inl, inr, ⊎_elim, ℕ, Bool, true, false, cond, ltb, arith, Option, None, Some}
use Rattle.std.specs.Bool.{then_some}
use borrow.Author.Tests.{ltb-true, ltb-false}
use Rattle.arithmetic.specs.rounding.Least.{Least}
use Rattle.arithmetic.specs.decides.Decides.{Decides}
use Rattle.arithmetic.proofs.Cases.{impossible}
use Rattle.kinds.specs.declared.refusals.JobRefusal.{JobRefusal}
use Rattle.kinds.specs.refusals.Refusals.{refusal_number}
use Rattle.loads.specs.steps.Asking.{lowest, Lowest, unshown, least}

-- the same numbers
pub lowest_same : {A B : ℕ → Type 0} {first : Option JobRefusal} → ((n : ℕ) → A n → B n) → ((n : ℕ) → B n → A n) → Lowest A first → Lowest B first
lowest_same f g (unshown l) = unshown (λ n w. l n (g n w))
lowest_same f g (least l) = least (record { holds = f _ l.holds; least = λ n w. l.least n (g n w) })

module _ {A B : ℕ → Type 0} where
  -- with numbers that are not shown
  pub lowest_alone : {first : Option JobRefusal} → Lowest A first → ((n : ℕ) → B n → ⊥) → Lowest (λ n. A n ⊎ B n) first
  lowest_alone (unshown l) none = unshown (λ n s. ⊎_elim (l n) (none n) s)
  lowest_alone (least l) none = least (record { holds = inl l.holds; least = λ n s. ⊎_elim (l.least n) (λ w. absurd (none n w)) s })

  -- of two kinds, by the lowest of each
  pub lowest_either : {first second : Option JobRefusal} → Lowest A first → Lowest B second → Lowest (λ n. A n ⊎ B n) (lowest first second)
  lowest_either (unshown l) (unshown m) = unshown (λ n s. ⊎_elim (l n) (m n) s)
  lowest_either (unshown l) (least m) = least (record { holds = inr m.holds; least = λ n s. ⊎_elim (λ a. absurd (l n a)) (m.least n) s })
  lowest_either (least l) (unshown m) = least (record { holds = inl l.holds; least = λ n s. ⊎_elim (l.least n) (λ b. absurd (m n b)) s })
  lowest_either (least {refusal = first} l) (least {refusal = second} m) = least (go (ltb (refusal_number second) (refusal_number first)) refl)
    where
      go : (t : Bool) → ltb (refusal_number second) (refusal_number first) ≡ t → Least (λ n. A n ⊎ B n) (refusal_number (cond t second first))
      go true e =
          let lower = ltb-true (refusal_number second) (refusal_number first) e in
          record { holds = inr m.holds; least = λ n s. ⊎_elim (λ a. let k = l.least n a in omega arith) (m.least n) s }
      go false e =
          let lower = ltb-false (refusal_number second) (refusal_number first) e in
          record { holds = inl l.holds; least = λ n s. ⊎_elim (l.least n) (λ b. let k = m.least n b in omega arith) s }

-- one number, shown where P
abbrev pub Where : Type 0 → ℕ → ℕ → Type 0
Where P number n = (n ≡ number) × P

pub lowest_where : {P : Type 0} (refusal : JobRefusal) (shown : Bool) → Decides shown P → Lowest (Where P (refusal_number refusal)) (then_some shown refusal)
lowest_where refusal true p = least (record { holds = (refl, p); least = λ n h. omega (arith, h.0) })
lowest_where refusal false p = unshown (λ n h. p h.1)

-- where the lower of two is none, neither is any
pub lowest_none : (first second : Option JobRefusal) → lowest first second ≡ None → first ≡ None
lowest_none None second e = refl
lowest_none (Some first) None e = impossible cc
lowest_none (Some first) (Some second) e = impossible cc

-- and with one more it is not none
pub lowest_some : {A : Type 0} (first : Option JobRefusal) (refusal : JobRefusal) → lowest first (Some refusal) ≡ None → A
lowest_some None refusal e = impossible cc
lowest_some (Some first) refusal e = impossible cc
