-- Bytes in hexadecimal digits, two digits a byte, the first worth sixteen times as much. Letters are small.
use Rattle.std.specs.Prelude.{ℕ, ◌+◌, ◌-◌, ◌*◌, ◌/◌, ◌%◌, min, ◌≤◌, ◌≡◌, Bool, cond, ◌&&◌, List, [], ◌∷◌, ◌++◌, leb, ltb, length, take, drop}

-- `&xs[..n]` is in bounds and has n bytes. The second part follows from the first, and spares a caller's `&buf[..n]` a proof file.
-- The same words stand in `files`, since neither crate stands on the other.
abbrev pub IsPrefixLen : ℕ → List ℕ → Type 0
IsPrefixLen n xs = (n ≤ length xs) × (n ≡ length (take n xs))

-- the byte c is one of those from `from` to `to`
abbrev pub among : ℕ → ℕ → ℕ → Bool
among from to c = leb from c && leb c to

-- what a digit is worth: `0` to `9`, and `a` to `f` from ten on; any other byte is worth 0
unfoldable pub worth : ℕ → ℕ
worth c = cond (among 0x30 0x39 c) (c - 0x30) (cond (among 0x61 0x66 c) (c - 0x61 + 10) 0)

-- the digit that is worth n, for n below sixteen
unfoldable pub digit : ℕ → ℕ
digit n = cond (ltb n 10) (0x30 + n) (0x61 + (n - 10))

-- the bytes that digits stand for, two by two; an odd last digit is left out
unfoldable pub decoded : List ℕ → List ℕ
decoded [] = []
decoded (a ∷ []) = []
decoded (a ∷ b ∷ s) = (worth a * 16 + worth b) ∷ decoded s

-- A buffer that held `before` holds `after` then: as many of the bytes that the digits stand for as fit, and behind them what it held; r are
-- told. Both fields are equations, of the answer and of the state, so each has one.
pub record Decoded (digits before after : List ℕ) (r : ℕ) : Type 0 where
  pub count : r ≡ min (length (decoded digits)) (length before)
  pub holds : after ≡ take r (decoded digits) ++ drop r before

-- the digits of bytes, two for each, the higher first
unfoldable pub encoded : List ℕ → List ℕ
encoded [] = []
encoded (b ∷ s) = digit (b / 16) ∷ digit (b % 16) ∷ encoded s

-- A buffer that held `before` holds `after` then: the digits of as many whole bytes as fit, and behind them what it held; r digits are told. Both fields
-- are equations, of the answer and of the state, so each has one.
pub record Encoded (bytes before after : List ℕ) (r : ℕ) : Type 0 where
  pub count : r ≡ 2 * min (length bytes) (length before / 2)
  pub holds : after ≡ take r (encoded bytes) ++ drop r before
