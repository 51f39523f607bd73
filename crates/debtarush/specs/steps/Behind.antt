-- What `append` answers: a text behind what a lent buffer holds already, "and the rest is untouched" (document 01, Refusals of a book).
use Rattle.std.specs.Prelude.{ℕ, ◌+◌, ◌≡◌, List, ◌++◌, length, take, drop}

-- a text behind the first `at` bytes of a buffer that held `before` and holds `after` then, and where it ends
pub record Behind (at : ℕ) (text before after : List ℕ) (end : ℕ) : Type 0 where
  pub ends : end ≡ at + length text
  pub whole : after ≡ take at before ++ (text ++ drop end before)
