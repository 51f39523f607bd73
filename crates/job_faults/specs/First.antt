-- Where a refusal lies: "the first row that shows it", of any list.
use Rattle.std.specs.Prelude.{ℕ, zero, suc, ◌+◌, ◌≤◌, ◌≡◌, List, [], ◌∷◌}

-- so many stand before it
unfoldable pub StandsAt : {A : Type 0} → List A → ℕ → A → Type 0
StandsAt [] i a = ⊥
StandsAt (x ∷ xs) zero a = x ≡ a
StandsAt (x ∷ xs) (suc i) a = StandsAt xs i a

-- the first with P, and its position, from 1
pub record First {A : Type 0} (P : ℕ → A → Type 0) (xs : List A) (position : ℕ) (a : A) : Type 0 where
  pub place : ℕ
  pub counted : position ≡ place + 1
  pub stands : StandsAt xs place a
  pub shows : P place a
  pub first : (i : ℕ) (b : A) → StandsAt xs i b → P i b → place ≤ i
