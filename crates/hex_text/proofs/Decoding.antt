-- Bytes read from hexadecimal digits into a lent buffer: a turn of the loop reads one more, and at the end as many are read as fit.
use Prim.Native.Nat.{ℕ, zero, suc, ◌+◌, ◌*◌, ◌/◌, ◌≤◌, ◌<◌, min}
use mathlib.Core.Path.{◌≡◌, refl, sym}
use mathlib.Core.List.{List, [], ◌∷◌}
use native.Mathlib.Omega.{arith}
use lib.ListN.{length, get_or, set}
use Rattle.hex_text.specs.Hex.{IsPrefixLen}
use Rattle.hex_text.specs.Hex.{worth, decoded, Decoded}
use Rattle.hex_text.proofs.Filling.{Filled, fills_next, fills_count}

decoded_length : (s : List ℕ) → length (decoded s) ≡ length s / 2
unfolding decoded
decoded_length [] = refl
decoded_length (a ∷ []) = refl
decoded_length (a ∷ b ∷ s) = let e = decoded_length s in omega arith

-- the byte of the two digits at 2 * i
decoded_at : (s : List ℕ) (i : ℕ) → i < length s / 2 → get_or (decoded s) i 0 ≡ worth (get_or s (2 * i) 0) * 16 + worth (get_or s (2 * i + 1) 0)
unfolding decoded
decoded_at [] i h = absurd (omega arith)
decoded_at (a ∷ []) i h = absurd (omega arith)
decoded_at (a ∷ b ∷ s) zero h = refl
decoded_at (a ∷ b ∷ s) (suc i) h =
    let e : 2 * suc i ≡ suc (suc (2 * i)) = omega arith in
    let f : suc (suc (2 * i)) + 1 ≡ suc (suc (2 * i + 1)) = omega arith in
    rw (e, f) (decoded_at s i (omega arith))

module _ (digits before bytes : List ℕ) (i : ℕ) (h : Filled (decoded digits) before bytes i) where
  pub reads_next : (a b : ℕ) → a ≡ worth (get_or digits (2 * i) 0) → b ≡ worth (get_or digits (2 * i + 1) 0)
      → i < length digits / 2 → i < length before → Filled (decoded digits) before (set bytes i (a * 16 + b)) (i + 1)
  reads_next a b first second enough room =
      let byte : a * 16 + b ≡ get_or (decoded digits) i 0 = rw (first, second) (sym (decoded_at digits i enough)) in
      fills_next _ _ _ _ h _ byte (let e = decoded_length digits in omega arith) room

  pub read_all : min (length digits / 2) (length before) ≤ i → Decoded digits before bytes i × IsPrefixLen i bytes
  read_all most =
      let e = decoded_length digits in
      (record { count = omega (arith, h.enough, h.room); holds = h.holds }, fills_count _ _ _ _ h)
