-- The search for the least cube: its bracket, kept by both halves of a turn, and what it says once it has closed. Behind it, how a quotient and its root make one rounding.
use mathlib.Core.Path.{◌≡◌, sym, ap, subst, ◌∙◌}
use mathlib.Core.Bool.{Bool, ◌&&◌}
use Prim.Native.Nat.{ℕ, ◌+◌, ◌*◌, ◌^◌, ◌≤◌, ◌<◌, zero-le}
use native.Mathlib.Nat.{le_refl, le_trans, lt_of_not-le, not-le_of_lt, mul-le-mul, mul-le-mul_right, pow-le-pow_left}
use native.Mathlib.Numerals.{add-one-le}
use native.Mathlib.Decide.{dec_le}
use native.Mathlib.Omega.{arith}
use lib.Dec.{eqb}
use Rattle.arithmetic.specs.rounding.Rounding.{LeastReaching, RoundsUp}
use Rattle.arithmetic.proofs.Deciding.{decides_same, decides_both, decides_equal}
use Rattle.arithmetic.proofs.rounding.Laws.{least_one}
use Rattle.arithmetic.proofs.rounding.Exactness.{exact_up}
use Rattle.arithmetic.proofs.rounding.Powers.{cube}

-- high reaches t, and whatever reaches t is low or more
pub record Bracket (t low high : ℕ) : Type 0 where
  pub order : low ≤ high
  pub top : high ≤ 41000
  pub reaches : t ≤ high ^ 3
  pub least : (d : ℕ) → t ≤ d ^ 3 → low ≤ d

pub bracket_started : {t : ℕ} → t ≤ 41000 ^ 3 → Bracket t 0 41000
bracket_started h = record { order = zero-le; top = le_refl 41000; reaches = h; least = λ d p. zero-le }

pub bracket_raised : {t low high : ℕ} (middle : ℕ) → Bracket t low high → middle < high → middle * middle * middle < t → Bracket t (middle + 1) high
bracket_raised {t} middle b l h = record {
  order = add-one-le l;
  top = b.top;
  reaches = b.reaches;
  least = λ d p. either d p (dec_le d middle);
}
  where
    either : (d : ℕ) → t ≤ d ^ 3 → Dec (d ≤ middle) → middle + 1 ≤ d
    either d p (yes k) = absurd (not-le_of_lt (subst (λ (x : ℕ). x < t) (sym (cube middle)) h) (le_trans p (pow-le-pow_left k 3)))
    either d p (no k) = add-one-le (lt_of_not-le k)

pub bracket_lowered : {t low high : ℕ} (middle : ℕ) → Bracket t low high → low ≤ middle → middle < high → t ≤ middle * middle * middle → Bracket t low middle
bracket_lowered {t} middle b k l h = record {
  order = k;
  top = omega (arith, b.top);
  reaches = subst (λ (x : ℕ). t ≤ x) (sym (cube middle)) h;
  least = b.least;
}

pub bracket_closed : {t low high : ℕ} → Bracket t low high → high ≤ low → LeastReaching (λ d. d ^ 3) t high (eqb (high * high * high) t)
bracket_closed {t} {high = high} b l = record {
  rounded = record { holds = b.reaches; least = λ d p. le_trans l (b.least d p) };
  told = decides_same (eqb (high * high * high) t) (λ e. cube high ∙ e) (λ e. sym (cube high) ∙ e) (decides_equal (high * high * high) t);
}

-- the cube of a number that the search tries fits a word
pub square_small : {d : ℕ} → d ≤ 41000 → d * d ≤ 41000 * 41000
square_small h = mul-le-mul h h

pub cube_small : {d : ℕ} → d ≤ 41000 → d * d * d ≤ 41000 * 41000 * 41000
cube_small h = mul-le-mul (square_small h) h

-- the least cube at or above a / b rounded up is the least cube whose multiple by b reaches a; and that multiple is a where both roundings are exact,
-- and nowhere else, since a cube that is a / b is a / b rounded up
pub scaled : (a b t r : ℕ) (quotient root : Bool) → 0 < b → RoundsUp a b t quotient → LeastReaching (λ d. d ^ 3) t r root → LeastReaching (λ d. d ^ 3 * b) a r (quotient && root)
scaled a b t r quotient root pos u l = record {
  rounded = record {
    holds = le_trans u.rounded.holds (mul-le-mul_right b l.rounded.holds);
    least = λ d p. l.rounded.least d (u.rounded.least (d ^ 3) p);
  };
  told = decides_same {P = (t * b ≡ a) × (r ^ 3 ≡ t)} {Q = r ^ 3 * b ≡ a} (quotient && root) (λ w. ap (λ (x : ℕ). x * b) w.1 ∙ w.0) apart (decides_both (t * b ≡ a) (r ^ 3 ≡ t) quotient root u.told l.told);
}
  where
    apart : r ^ 3 * b ≡ a → (t * b ≡ a) × (r ^ 3 ≡ t)
    apart e =
        let same : r ^ 3 ≡ t = least_one (exact_up a b (r ^ 3) pos e) u.rounded in
        (ap (λ (x : ℕ). x * b) (sym same) ∙ e, same)
