-- A text in pieces, one behind the other: document 01, The printed answer, "prints its jobs in book order".
use Rattle.std.specs.Prelude.{ℕ, ◌≤◌, ◌≡◌, List, [], ◌∷◌, ◌++◌, length, drop}
use Rattle.csv_text.specs.Nth.{Nth}
use Rattle.debtarush.specs.CallTold.{written}
use Rattle.debtarush.specs.Called.{Called}

-- the pieces one behind the other
abbrev pub joined : List (List ℕ) → List ℕ
joined [] = []
joined (piece ∷ pieces) = piece ++ joined pieces

-- a text is so many pieces and nothing else, and each is what a call for its place of the book writes into any buffer that has room for it
pub record Pieces (own common b : List ℕ) (many : ℕ) (text : List ℕ) : Type 0 where
  pub pieces : List (List ℕ)
  pub as_many : length pieces ≡ many
  pub are : text ≡ joined pieces
  pub each : (place : ℕ) (piece before : List ℕ) → Nth pieces place piece → length piece ≤ length before
      → Called own common b place before (piece ++ drop (length piece) before) (written (length piece))
