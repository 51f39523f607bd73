-- Document 01, the job book: "1 to 9 digits, no leading zero save 0 itself".
use Rattle.std.specs.Prelude.{ℕ, ◌+◌, ◌*◌, ◌≤◌, List, [], ◌∷◌, ◌++◌, length}

-- digits with no leading zero, and what they are worth
pub data Numeral : List ℕ → ℕ → Type 0 where
  one : {d : ℕ} → d ≤ 9 → Numeral ((0x30 + d) ∷ []) d
  more : {s : List ℕ} {n d : ℕ} → 1 ≤ n → Numeral s n → d ≤ 9 → Numeral (s ++ (0x30 + d) ∷ []) (10 * n + d)

-- 1 to 9 of them
pub record Digited (s : List ℕ) (n : ℕ) : Type 0 where
  pub numeral : Numeral s n
  pub few : length s ≤ 9
