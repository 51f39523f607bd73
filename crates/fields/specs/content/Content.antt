-- Document 01, the job book: "quoted or plain, a field means its content". A stretch without the quotes around it.
use Rattle.std.specs.Prelude.{ℕ, ◌≡◌, List, [], ◌∷◌, ◌++◌}
use Rattle.csv_text.specs.rfc4180.Rfc4180.{DQUOTE}

-- the stretch between quotes, where it begins and ends with one; else all of it
pub data Bare (raw r : List ℕ) : Type 0 where
  between : raw ≡ DQUOTE ∷ r ++ DQUOTE ∷ [] → Bare raw r
  all : r ≡ raw → ((s : List ℕ) → raw ≡ DQUOTE ∷ s ++ DQUOTE ∷ [] → ⊥) → Bare raw r
