-- The n-th of a list: of a text's rows, a book's jobs, an answer's lines.
use Rattle.std.specs.Prelude.{ℕ, ◌+◌, ◌≡◌, List, ◌∷◌, ◌++◌, length}

-- x is the n-th of a list, the first being 1
pub record Nth {A : Type 0} (xs : List A) (n : ℕ) (x : A) : Type 0 where
  pub before : List A
  pub behind : List A
  pub are : xs ≡ before ++ x ∷ behind
  pub number : n ≡ length before + 1
