-- Line breaks counted one byte at a time.
use Prim.Native.Nat.{ℕ, ◌+◌, ◌≤◌, ◌<◌}
use native.Mathlib.Numerals.{add-one}
use native.Mathlib.Omega.{arith}
use mathlib.Core.Path.{◌≡◌, ap, ◌∙◌}
use mathlib.Core.Bool.{cond}
use mathlib.Core.List.{List, [], ◌∷◌, ◌++◌}
use lib.Dec.{eqb}
use lib.ListN.{length, get_or, take}
use lib.Seq.{take-suc}
use borrow.Author.Tests.{eq-eqb, ne_eqb}
use Rattle.csv_text.specs.rfc4180.Rfc4180.{LF}
use Rattle.csv_text.specs.places.Places.{breaks}

breaks_snoc : (s : List ℕ) (b : ℕ) → breaks (s ++ b ∷ []) ≡ breaks s + cond (eqb b LF) 1 0
unfolding breaks
breaks_snoc [] b = omega arith
breaks_snoc (x ∷ s) b = let h = breaks_snoc s b in omega arith

-- a line of a text counted so far
pub record Counted (s : List ℕ) (line i : ℕ) : Type 0 where
  pub within : i ≤ length s
  pub few : line ≤ i + 1
  pub is : line ≡ breaks (take i s) + 1

pub counted_none : (s : List ℕ) {line : ℕ} → line ≡ 1 → Counted s line 0
unfolding breaks
counted_none s e = record { within = omega arith; few = omega arith; is = omega arith }

module _ {s : List ℕ} {line i : ℕ} (c : Counted s line i) (h : i < length s) where
  one_more : breaks (take (i + 1) s) ≡ breaks (take i s) + cond (eqb (get_or s i 0) LF) 1 0
  one_more = ap breaks (rw add-one (take-suc s i 0 h)) ∙ breaks_snoc (take i s) (get_or s i 0)

  pub counted_break : get_or s i 0 ≡ LF → Counted s (line + 1) (i + 1)
  counted_break e =
      let m : breaks (take (i + 1) s) ≡ breaks (take i s) + 1 = one_more ∙ rw (eq-eqb (get_or s i 0) LF e) in
      let f = c.few in
      let k = c.is in
      record { within = omega arith; few = omega arith; is = omega arith }

  pub counted_other : (get_or s i 0 ≡ LF → ⊥) → Counted s line (i + 1)
  counted_other n =
      let m : breaks (take (i + 1) s) ≡ breaks (take i s) + 0 = one_more ∙ rw (ne_eqb (get_or s i 0) LF n) in
      let f = c.few in
      let k = c.is in
      record { within = omega arith; few = omega arith; is = omega arith }
