-- Document 01, Refusals of a book: "7, the buffer lent is shorter than the lines", with row 0. "Nothing is written by a call refused ..
-- Otherwise exactly the lines' bytes are written from the start and the rest is untouched."
use Rattle.std.specs.Prelude.{ℕ, ◌≤◌, ◌<◌, ◌≡◌, List, ◌++◌, length, drop, Result, Ok, Err}
use Rattle.buffer.specs.declared.TooShort.{TooShort}

-- the length written, or a refusal and its row
pub data CopyTold : Type 0 where
  wrote : ℕ → CopyTold
  refused : ℕ → ℕ → CopyTold

unfoldable pub copy_told : Result ℕ TooShort → CopyTold
copy_told (Ok n) = wrote n
copy_told (Err short) = refused 7 0

-- what is said of writing the text t into a buffer that held before and holds after then
unfoldable pub Wrote : List ℕ → List ℕ → List ℕ → CopyTold → Type 0
Wrote t before after (wrote n) = (length t ≤ length before) × (n ≡ length t) × (after ≡ t ++ drop (length t) before)
Wrote t before after (refused number row) = (length before < length t) × (number ≡ 7) × (row ≡ 0) × (after ≡ before)
