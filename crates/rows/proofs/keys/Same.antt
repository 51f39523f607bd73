-- Keys by the bytes and the lengths of their two names.
use Prim.Native.Nat.{ℕ}
use mathlib.Core.Path.{◌≡◌, ap}
use mathlib.Core.Bool.{Bool, ◌&&◌}
use lib.ListN.{get_or}
use lib.Dec.{eqb}
use Rattle.arithmetic.specs.decides.Decides.{Decides}
use Rattle.arithmetic.proofs.Deciding.{decides_same, decides_both, decides_equal}
use Rattle.rows.specs.declared.keys.Key.{Key}

both_equal : (x y z w : ℕ) → Decides (eqb x y && eqb z w) ((x ≡ y) × (z ≡ w))
both_equal x y z w = decides_both (x ≡ y) (z ≡ w) (eqb x y) (eqb z w) (decides_equal x y) (decides_equal z w)

module _ (a b : Key) where
  -- the letters of both names at a place
  abbrev pub SameLetters : ℕ → Type 0
  SameLetters i = (get_or a.member.bytes i 0 ≡ get_or b.member.bytes i 0) × (get_or a.job.bytes i 0 ≡ get_or b.job.bytes i 0)

  abbrev pub same_letters : ℕ → Bool
  same_letters i = eqb (get_or a.member.bytes i 0) (get_or b.member.bytes i 0) && eqb (get_or a.job.bytes i 0) (get_or b.job.bytes i 0)

  pub same_letters_decides : (i : ℕ) → Decides (same_letters i) (SameLetters i)
  same_letters_decides i = both_equal (get_or a.member.bytes i 0) (get_or b.member.bytes i 0) (get_or a.job.bytes i 0) (get_or b.job.bytes i 0)

  pub same_letters_of : (i : ℕ) → a ≡ b → SameLetters i
  same_letters_of i e = (ap (λ (x : Key). get_or x.member.bytes i 0) e, ap (λ (x : Key). get_or x.job.bytes i 0) e)

  -- with the same letters, the lengths decide
  pub key_decides : a.member.bytes ≡ b.member.bytes → a.job.bytes ≡ b.job.bytes → Decides (eqb a.member.len b.member.len && eqb a.job.len b.job.len) (a ≡ b)
  key_decides m j =
      decides_same (eqb a.member.len b.member.len && eqb a.job.len b.job.len)
      (λ w. λ i. record { member = record { len = w.0 i; bytes = m i }; job = record { len = w.1 i; bytes = j i } })
      (λ e. (ap (λ (x : Key). x.member.len) e, ap (λ (x : Key). x.job.len) e))
      (both_equal a.member.len b.member.len a.job.len b.job.len)
