-- How a proof goes by cases: questions that are decided, and a case that there is not. Other crates' proofs cite them.
use Prim.Native.Nat.{ℕ}
use native.Mathlib.Omega.{arith}
use mathlib.Core.Path.{◌≡◌}
use mathlib.Core.Logic.{◌⊎◌, inl, inr, ⊎_elim}
use mathlib.Core.Bool.{false}
use lib.Dec.{eqb}
use borrow.Author.Tests.{eqb-false}

-- whatever is asked for, where `cc` finds that two constructors would be one
pub impossible : {A : Type 0} → ◌≡◌ {A = ℕ} 0 1 → A
impossible e = absurd (omega arith)

-- or where two numbers that differ would be one
pub unlike : {A : Type 0} (m n : ℕ) → eqb m n ≡ false → m ≡ n → A
unlike m n d e = absurd (eqb-false m n d e)

-- one way where P holds, and another where it does not
pub by_cases : {P A : Type 0} → Dec P → (P → A) → ((P → ⊥) → A) → A
by_cases (yes p) f g = f p
by_cases (no n) f g = g n

-- two questions that are decided
pub both : {P Q : Type 0} → Dec P → Dec Q → Dec (P × Q)
both (yes p) (yes q) = yes (p, q)
both (yes p) (no n) = no (λ w. n w.1)
both (no n) d = no (λ w. n w.0)

pub either : {P Q : Type 0} → Dec P → Dec Q → Dec (P ⊎ Q)
either (yes p) d = yes (inl p)
either (no n) (yes q) = yes (inr q)
either (no n) (no m) = no (⊎_elim n m)
