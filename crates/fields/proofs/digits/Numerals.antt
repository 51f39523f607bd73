-- Digits, and what they are worth.
use Prim.Native.Nat.{ℕ, zero, suc, ◌+◌, ◌-◌, ◌*◌, ◌^◌, ◌≤◌, ◌<◌}
use native.Mathlib.Numerals.{add-one}
use native.Mathlib.Decide.{dec_lt}
use native.Mathlib.Omega.{arith}
use mathlib.Core.Path.{◌≡◌, refl, sym, ap, subst, ◌∙◌}
use mathlib.Core.Logic.{◌⊎◌, inl, inr}
use mathlib.Core.Bool.{Bool, true, false, ◌&&◌, ◌||◌}
use mathlib.Core.List.{List, [], ◌∷◌, ◌++◌}
use native.Mathlib.Nat.{lt_of_lt_of_le, pow-le-pow_right}
use lib.Dec.{lit<, ltb, eqb}
use lib.ListN.{length, get_or, take, length-take, length-append, get_or-append}
use lib.Seq.{get_or_at, take-suc, take_all}
use Rattle.arithmetic.proofs.Cases.{by_cases}
use Rattle.csv_text.proofs.Lists.{heads, lasts}
use Rattle.arithmetic.specs.decides.Decides.{Decides}
use Rattle.arithmetic.proofs.Deciding.{decided, refuted, decides_either, decides_both, decides_below, decides_equal}
use Rattle.fields.specs.digits.Numerals.{Numeral, one, more}

pub numeral_some : {s : List ℕ} {n : ℕ} → Numeral s n → 1 ≤ length s
numeral_some (one h) = omega arith
numeral_some (more {s} {d} k p h) = omega (arith, length-append s ((0x30 + d) ∷ []))

pub record Digit (x : ℕ) : Type 0 where
  pub from : 0x30 ≤ x
  pub to : x ≤ 0x39

pub numeral_digit : {s : List ℕ} {n : ℕ} → Numeral s n → (k : ℕ) → k < length s → Digit (get_or s k 0)
numeral_digit (one h) zero j = omega arith
numeral_digit (one h) (suc k) j = absurd (omega arith)
numeral_digit (more {s} {d} g p h) k j =
    by_cases (dec_lt k (length s)) (λ l. rw (get_or-append s ((0x30 + d) ∷ []) 0 k l) (numeral_digit p k l))
    (λ l.
    let e : length s ≡ k = omega (arith, length-append s ((0x30 + d) ∷ [])) in
    rw (get_or_at s (0x30 + d) [] 0 k e) (omega arith))

-- a number of at least 1 has no zero in front
numeral_head : {s : List ℕ} {n : ℕ} → Numeral s n → 1 ≤ n → get_or s 0 0 ≡ 0x30 → ⊥
numeral_head (one h) l e = omega arith
numeral_head (more {s} {d} g p h) l e =
    numeral_head p g (sym (get_or-append s ((0x30 + d) ∷ []) 0 0 (numeral_some p)) ∙ e)

numeral_zero : {s : List ℕ} {n : ℕ} → Numeral s n → 1 < length s → get_or s 0 0 ≡ 0x30 → ⊥
numeral_zero (one h) l e = omega arith
numeral_zero (more {s} {d} g p h) l e =
    numeral_head p g (sym (get_or-append s ((0x30 + d) ∷ []) 0 0 (numeral_some p)) ∙ e)

numeral_bound : {s : List ℕ} {n : ℕ} → Numeral s n → n < 10 ^ length s
numeral_bound (one h) = omega arith
numeral_bound (more {s} {d} g p h) =
    let b = numeral_bound p in
    let e : length (s ++ (0x30 + d) ∷ []) ≡ suc (length s) = length-append s ((0x30 + d) ∷ []) ∙ add-one (length s) in
    rw e (omega arith)

numeral_small : (k : ℕ) {s : List ℕ} {n : ℕ} → Numeral s n → length s ≤ k → n < 10 ^ k
numeral_small k p h = lt_of_lt_of_le (numeral_bound p) (pow-le-pow_right (lit< tt) h)

-- one value
pub numeral_unique : {s t : List ℕ} {n m : ℕ} → Numeral s n → Numeral t m → s ≡ t → n ≡ m
numeral_unique (one h) (one k) e = let z = heads e in omega arith
numeral_unique (one h) (more {s} {d} g q k) e = absurd (omega (arith, ap length e, length-append s ((0x30 + d) ∷ []), numeral_some q))
numeral_unique (more {s} {d} g p h) (one k) e = absurd (omega (arith, ap length e, length-append s ((0x30 + d) ∷ []), numeral_some p))
numeral_unique (more {s} {d} g p h) (more {s = t} {d = c} f q k) e =
    let w = lasts s t (0x30 + d) (0x30 + c) e in
    let v = numeral_unique p q w.0 in
    let z = w.1 in
    omega arith

-- a number of no worth has a zero in front
zero_head : {s : List ℕ} {n : ℕ} → Numeral s n → n ≡ 0 → get_or s 0 0 ≡ 0x30
zero_head (one h) e = omega arith
zero_head (more g p h) e = absurd (omega arith)

take_head : (s : List ℕ) (i : ℕ) → 0 < i → get_or (take i s) 0 0 ≡ get_or s 0 0
take_head s zero h = absurd (omega arith)
take_head [] (suc i) h = refl
take_head (x ∷ s) (suc i) h = refl

-- no byte, or too many for a number
pub lengths : (n : ℕ) → Decides (eqb n 0 || ltb 9 n) ((n ≡ 0) ⊎ (9 < n))
lengths n = decides_either (n ≡ 0) (9 < n) (eqb n 0) (ltb 9 n) (decides_equal n 0) (decides_below 9 n)

-- the first i bytes are read: there are none yet, or they are worth v
pub data DigitsRead (s : List ℕ) (i v : ℕ) : Type 0 where
  nothing : i ≡ 0 → v ≡ 0 → DigitsRead s i v
  digits : 1 ≤ i → Numeral (take i s) v → DigitsRead s i v

-- a byte behind them that is no digit, or follows a leading zero
abbrev Stops : ℕ → ℕ → ℕ → Type 0
Stops b i v = ((b < 0x30) ⊎ (0x39 < b)) ⊎ ((0 < i) × (v ≡ 0))

abbrev stops : ℕ → ℕ → ℕ → Bool
stops b i v = (ltb b 0x30 || ltb 0x39 b) || (ltb 0 i && eqb v 0)

stops_decides : (b i v : ℕ) → Decides (stops b i v) (Stops b i v)
stops_decides b i v =
    decides_either ((b < 0x30) ⊎ (0x39 < b)) ((0 < i) × (v ≡ 0)) (ltb b 0x30 || ltb 0x39 b) (ltb 0 i && eqb v 0)
    (decides_either (b < 0x30) (0x39 < b) (ltb b 0x30) (ltb 0x39 b) (decides_below b 0x30) (decides_below 0x39 b))
    (decides_both (0 < i) (v ≡ 0) (ltb 0 i) (eqb v 0) (decides_below 0 i) (decides_equal v 0))

module _ (s : List ℕ) (i v : ℕ) where
  pub digits_all : 1 ≤ length s → length s ≤ i → DigitsRead s i v → Numeral s v
  digits_all h k (nothing a b) = absurd (omega arith)
  digits_all h k (digits a p) = subst (λ (l : List ℕ). Numeral l v) (take_all i s k) p

  module _ (l : i < length s) where
    abbrev b : ℕ
    b = get_or s i 0

    -- at most eight digits leave room for one more
    pub room : length s ≤ 9 → DigitsRead s i v → v < 100000000
    room h (nothing a e) = omega arith
    room h (digits a p) = numeral_small 8 p (rw length-take (omega arith))

    pub digits_stop : DigitsRead s i v → stops b i v ≡ true → (n : ℕ) → Numeral s n → ⊥
    digits_stop p e n q = none p (decided (stops b i v) e (stops_decides b i v))
      where
        none : DigitsRead s i v → Stops b i v → ⊥
        none p (inl (inl h)) = let d = numeral_digit q i l in omega arith
        none p (inl (inr h)) = let d = numeral_digit q i l in omega arith
        none (nothing a z) (inr h) = let k = h.0 in omega arith
        none (digits a p) (inr h) = numeral_zero q (omega arith) (sym (take_head s i a) ∙ zero_head p h.1)

    -- one more digit
    module _ (e : stops b i v ≡ false) where
      goes_on : Stops b i v → ⊥
      goes_on = refuted (stops b i v) e (stops_decides b i v)

      pub digit : Digit b
      digit =
          let f : b < 0x30 → ⊥ = λ h. goes_on (inl (inl h)) in
          let g : 0x39 < b → ⊥ = λ h. goes_on (inl (inr h)) in
          omega arith

      abbrev d : ℕ
      d = b - 0x30

      grown : DigitsRead s i v → Numeral (take i s ++ (0x30 + d) ∷ []) (10 * v + d)
      grown (nothing a z) =
          let w : 10 * v + d ≡ d = omega arith in
          let t : take i s ≡ [] = ap (λ (j : ℕ). take j s) a in
          let h = digit in
          rw (t, w) (one {d = d} (omega arith))
      grown (digits a p) =
          let f : v ≡ 0 → ⊥ = λ z. goes_on (inr (a, z)) in
          let h = digit in
          more {n = v} {d = d} (omega arith) p (omega arith)

      pub digits_more : DigitsRead s i v → DigitsRead s (i + 1) (v * 10 + d)
      digits_more p =
          let h = digit in
          let x : 0x30 + d ≡ b = omega arith in
          let t : take (i + 1) s ≡ take i s ++ (0x30 + d) ∷ [] = rw (add-one, take-suc s i 0 l, x) in
          let w : v * 10 + d ≡ 10 * v + d = omega arith in
          digits (omega arith) (rw (t, w) (grown p))
