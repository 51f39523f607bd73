-- Bytes as one number: what the loop has of it, byte by byte.
use Prim.Native.Nat.{ℕ, ◌+◌, ◌*◌, ◌^◌, ◌≤◌, ◌<◌, zero-le}
use native.Mathlib.Numerals.{add-one}
use native.Mathlib.Nat.{pow-suc, pow-le-pow_right}
use native.Mathlib.Omega.{arith}
use mathlib.Core.Path.{◌≡◌, refl, ap}
use mathlib.Core.List.{List, [], ◌∷◌, ◌++◌}
use lib.Dec.{lit<}
use lib.ListN.{length, get_or, take}
use lib.Seq.{take-suc}
use Rattle.reactions.specs.xdr.Record.{behind}

behind_more : (n : ℕ) (l : List ℕ) (b : ℕ) → behind n (l ++ b ∷ []) ≡ behind n l * 256 + b
behind_more n [] b = refl
behind_more n (a ∷ l) b = behind_more (n * 256 + a) l b

-- the first i bytes make the number n
pub record NumberRead (s : List ℕ) (count i n : ℕ) : Type 0 where
  pub few : i ≤ count
  pub is : n ≡ behind 0 (take i s)
  pub most : n < 256 ^ i

pub number_none : (s : List ℕ) (count : ℕ) → NumberRead s count 0 0
number_none s count = record { few = zero-le; is = refl; most = lit< tt }

module _ (s : List ℕ) (count i n : ℕ) (p : NumberRead s count i n) (h : i < count) (w : count ≤ 8) where
  -- there is room for a byte more
  pub number_room : n < 2 ^ 56
  number_room =
      let j : i ≤ 7 = omega arith in
      let m = p.most in
      let q : 256 ^ i ≤ 256 ^ 7 = pow-le-pow_right (lit< tt) j in
      omega arith

  pub number_more : count ≤ length s → get_or s i 0 < 256 → NumberRead s count (i + 1) (n * 256 + get_or s i 0)
  number_more l b =
      let m = p.most in
      let q : 256 ^ (i + 1) ≡ 256 ^ i * 256 = rw (add-one, pow-suc 256 i) in
      let t : take (i + 1) s ≡ take i s ++ get_or s i 0 ∷ [] = rw (add-one, take-suc s i 0 (omega arith)) in
      record {
        few = omega arith;
        is = rw (t, behind_more 0 (take i s) (get_or s i 0)) (ap (λ (k : ℕ). k * 256 + get_or s i 0) p.is);
        most = rw q (omega arith);
      }
