-- Bytes written in hexadecimal digits to a lent buffer: a turn of the loop stores the two digits of one more, and at the end as many whole bytes are
-- written as fit. What the digits of bytes stand for is these bytes, since the digit of a number is worth that number.
use Prim.Native.Nat.{ℕ, zero, suc, ◌+◌, ◌*◌, ◌/◌, ◌%◌, ◌≤◌, ◌<◌, min}
use mathlib.Core.Path.{◌≡◌, refl, sym}
use mathlib.Core.List.{List, [], ◌∷◌}
use native.Mathlib.Omega.{arith}
use lib.ListN.{length, get_or, set}
use Rattle.hex_text.specs.Hex.{IsPrefixLen}
use Rattle.hex_text.specs.Hex.{digit, decoded, encoded, Encoded}
use Rattle.hex_text.proofs.Digits.{worth_digit}
use Rattle.hex_text.proofs.Filling.{Filled, fills_next, fills_count}

encoded_length : (s : List ℕ) → length (encoded s) ≡ 2 * length s
unfolding encoded
encoded_length [] = refl
encoded_length (b ∷ s) = let e = encoded_length s in omega arith

-- the two digits of the byte at i
encoded_high : (s : List ℕ) (i : ℕ) → i < length s → get_or (encoded s) (2 * i) 0 ≡ digit (get_or s i 0 / 16)
unfolding encoded
encoded_high [] i h = absurd (omega arith)
encoded_high (b ∷ s) zero h = refl
encoded_high (b ∷ s) (suc i) h = let e : 2 * suc i ≡ suc (suc (2 * i)) = omega arith in rw e (encoded_high s i (omega arith))

encoded_low : (s : List ℕ) (i : ℕ) → i < length s → get_or (encoded s) (2 * i + 1) 0 ≡ digit (get_or s i 0 % 16)
unfolding encoded
encoded_low [] i h = absurd (omega arith)
encoded_low (b ∷ s) zero h = refl
encoded_low (b ∷ s) (suc i) h = let e : 2 * suc i + 1 ≡ suc (suc (2 * i + 1)) = omega arith in rw e (encoded_low s i (omega arith))

-- bytes are what their digits stand for
pub decoded_encoded : (s : List ℕ) → ((i : ℕ) → i < length s → get_or s i 0 < 256) → decoded (encoded s) ≡ s
unfolding decoded encoded
decoded_encoded [] bytes = refl
decoded_encoded (b ∷ s) bytes =
    let byte : b < 256 = bytes 0 (omega arith) in
    let rest = decoded_encoded s (λ i h. bytes (suc i) (omega arith)) in
    let same : b / 16 * 16 + b % 16 ≡ b = omega arith in
    rw (worth_digit (b / 16) (omega arith), worth_digit (b % 16) (omega arith), same, rest) refl

module _ (bytes before out : List ℕ) (i : ℕ) (h : Filled (encoded bytes) before out (2 * i)) where
  pub writes_next : (high low : ℕ) → high ≡ digit (get_or bytes i 0 / 16 % 16) → low ≡ digit (get_or bytes i 0 % 16) → get_or bytes i 0 < 256
      → i < length bytes → i < length before / 2 → Filled (encoded bytes) before (set (set out (2 * i) high) (2 * i + 1) low) (2 * (i + 1))
  writes_next high low first second byte more room =
      let e = encoded_length bytes in
      let last : get_or bytes i 0 / 16 % 16 ≡ get_or bytes i 0 / 16 = omega arith in
      let two : 2 * (i + 1) ≡ 2 * i + 1 + 1 = omega arith in
      let one = fills_next _ _ _ _ h high (rw (first, last) (sym (encoded_high bytes i more))) (omega arith) (omega arith) in
      rw two (fills_next _ _ _ _ one low (rw second (sym (encoded_low bytes i more))) (omega arith) (omega arith))

  pub written_all : min (length bytes) (length before / 2) ≤ i → Encoded bytes before out (2 * i) × IsPrefixLen (2 * i) out
  written_all most =
      let e = encoded_length bytes in
      (record { count = omega (arith, h.enough, h.room); holds = h.holds }, fills_count _ _ _ _ h)
