-- What a byte is worth in each stretch of bytes, and that the digit of a number is worth that number.
use Prim.Native.Nat.{ℕ, ◌+◌, ◌-◌, ◌≤◌, ◌<◌}
use mathlib.Core.Path.{◌≡◌, refl}
use mathlib.Core.Bool.{true, false}
use native.Mathlib.Omega.{arith}
use native.Mathlib.Decide.{dec_le}
use borrow.Author.Tests.{lt-ltb, le-ltb, le-leb, lt-leb}
use Rattle.hex_text.specs.Hex.{among, worth, digit}

among_true : (from to c : ℕ) → from ≤ c → c ≤ to → among from to c ≡ true
among_true from to c low high = rw (le-leb from c low, le-leb c to high) refl

among_below : (from to c : ℕ) → c < from → among from to c ≡ false
among_below from to c h = rw (lt-leb from c h) refl

among_above : (from to c : ℕ) → from ≤ c → to < c → among from to c ≡ false
among_above from to c low high = rw (le-leb from c low, lt-leb c to high) refl

-- ---- worth

pub worth_number : (c : ℕ) → 0x30 ≤ c → c ≤ 0x39 → worth c ≡ c - 0x30
unfolding worth
worth_number c low high = rw (among_true 0x30 0x39 c low high) refl

pub worth_letter : (c : ℕ) → 0x61 ≤ c → c ≤ 0x66 → worth c ≡ c - 0x61 + 10
unfolding worth
worth_letter c low high = rw (among_above 0x30 0x39 c (omega arith) (omega arith), among_true 0x61 0x66 c low high) refl

pub worth_below : (c : ℕ) → c < 0x30 → worth c ≡ 0
unfolding worth
worth_below c h = rw (among_below 0x30 0x39 c h, among_below 0x61 0x66 c (omega arith)) refl

pub worth_between : (c : ℕ) → 0x39 < c → c < 0x61 → worth c ≡ 0
unfolding worth
worth_between c low high = rw (among_above 0x30 0x39 c (omega arith) low, among_below 0x61 0x66 c high) refl

pub worth_above : (c : ℕ) → 0x66 < c → worth c ≡ 0
unfolding worth
worth_above c h = rw (among_above 0x30 0x39 c (omega arith) (omega arith), among_above 0x61 0x66 c (omega arith) h) refl

-- ---- digit

pub digit_number : (n : ℕ) → n < 10 → digit n ≡ 0x30 + n
unfolding digit
digit_number n h = rw (lt-ltb n 10 h) refl

pub digit_letter : (n : ℕ) → 10 ≤ n → digit n ≡ 0x61 + (n - 10)
unfolding digit
digit_letter n h = rw (le-ltb n 10 h) refl

pub worth_digit : (n : ℕ) → n < 16 → worth (digit n) ≡ n
worth_digit n h =
    elim (dec_le 10 n) [
      | yes ten ↦ rw (digit_letter n ten) (let e = worth_letter (0x61 + (n - 10)) (omega arith) (omega arith) in omega arith)
      | no few ↦ rw (digit_number n (omega arith)) (let e = worth_number (0x30 + n) (omega arith) (omega arith) in omega arith)
    ]
