-- The least and the greatest whole number with a property, and a quotient rounded up and down by them.
use Rattle.std.specs.Prelude.{ℕ, ◌*◌, ◌≤◌}

-- n is the least whole number with P
pub record Least (P : ℕ → Type 0) (n : ℕ) : Type 0 where
  pub holds : P n
  pub least : (m : ℕ) → P m → n ≤ m

-- n is the greatest whole number with P
pub record Greatest (P : ℕ → Type 0) (n : ℕ) : Type 0 where
  pub holds : P n
  pub greatest : (m : ℕ) → P m → m ≤ n

-- c is a / b rounded up: the least whole number c with c * b at least a
abbrev pub RoundedUp : ℕ → ℕ → ℕ → Type 0
RoundedUp a b c = Least (λ n. a ≤ n * b) c

-- c is a / b rounded down: the greatest whole number c with c * b at most a
abbrev pub RoundedDown : ℕ → ℕ → ℕ → Type 0
RoundedDown a b c = Greatest (λ n. n * b ≤ a) c
