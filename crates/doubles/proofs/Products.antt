-- A product that is finite has finite factors, and of whole numbers it is exact where it is below 2^53 in size: rounding changes nothing there.
use mathlib.Core.Path.{◌≡◌, sym, ap, ap₂, ◌∙◌, subst, subst₂}
use mathlib.Core.Bool.{Bool, true, false, cond}
use Prim.Native.Nat.{ℕ, suc, ◌+◌, ◌*◌, ◌^◌, ◌<◌}
use native.Mathlib.Nat.{mul-one, mul-pos, mul_right_comm, mul-mul-mul_comm, lt_of_lt_of_le}
use lib.Dec.{lit≤, eqb}
use lib.Pow.{shl_lt}
use lib.IntN.{ℤ, nat_abs, ◌*ℤ◌}
use lib.Ieee.{Float, nan, inf, fin, binary64, unlike, up, down, round, mul}
use lib.Ieee.Fits.{down_pos}
use lib.Ieee.Exact.{HasValue, round_exact}
use Rattle.doubles.specs.Doubles.{Finite, Exactly}
use Rattle.doubles.proofs.Signs.{size_signed, signed_product}
use Rattle.doubles.proofs.Wholes.{lowest}

-- a product with an infinity
endless : {A : Type 0} (b s : Bool) → Finite (cond b nan (inf s)) → A
endless true s f = absurd f
endless false s f = absurd f

pub mul_finite : (x y : Float) → Finite (mul binary64 x y) → Finite x × Finite y
unfolding mul
mul_finite nan y f = absurd f
mul_finite (inf s) nan f = absurd f
mul_finite (inf s) (inf t) f = absurd f
mul_finite (inf s) (fin t n d) f = endless (eqb n 0) (unlike s t) f
mul_finite (fin s m e) nan f = absurd f
mul_finite (fin s m e) (inf t) f = endless (eqb m 0) (unlike s t) f
mul_finite (fin s m e) (fin t n d) f = (tt, tt)

-- a whole number below 2^53 is far below the largest double
far : (q : ℕ) → q < 2 ^ 53 → q * 2 ^ 1074 < 2 ^ (1074 + suc 1023)
far q h = lt_of_lt_of_le (shl_lt 53 1074 h) (lit≤ tt)

-- a whole result of at most 53 digits is not rounded
unrounded : (s : Bool) (num den q : ℕ) → 0 < den → num ≡ q * den → q < 2 ^ 53 → HasValue (round binary64 s num den) s q 1
unrounded s num den q p h small =
    lowest (round binary64 s num den) s num den q p h
    (round_exact binary64 s num den q 1074 p small (far q small) (ap (λ (k : ℕ). k * 2 ^ 1074) h ∙ mul_right_comm q den (2 ^ 1074)))

exact : (x y : Float) (s t : Bool) (a b : ℕ) → HasValue x s a 1 → HasValue y t b 1 → a * b < 2 ^ 53 → HasValue (mul binary64 x y) (unlike s t) (a * b) 1
unfolding mul
exact nan y s t a b u v h = absurd u
exact (inf i) y s t a b u v h = absurd u
exact (fin i m e) nan s t a b u v h = absurd v
exact (fin i m e) (inf j) s t a b u v h = absurd v
exact (fin i m e) (fin j n d) s t a b u v h =
    let x : m * up e ≡ a * down e = sym (mul-one (m * up e)) ∙ u.1 in
    let y : n * up d ≡ b * down d = sym (mul-one (n * up d)) ∙ v.1 in
    let whole : m * up e * (n * up d) ≡ a * b * (down e * down d) = ap₂ (λ (p q : ℕ). p * q) x y ∙ mul-mul-mul_comm a (down e) b (down d) in
    subst₂ (λ (p q : Bool). HasValue (round binary64 (unlike i j) (m * up e * (n * up d)) (down e * down d)) (unlike p q) (a * b) 1) u.0 v.0
    (unrounded (unlike i j) (m * up e * (n * up d)) (down e * down d) (a * b) (mul-pos (down_pos e) (down_pos d)) whole h)

pub exact_product : (x y : Float) (a b : ℤ) → Exactly x a → Exactly y b → nat_abs (a *ℤ b) < 2 ^ 53 → Exactly (mul binary64 x y) (a *ℤ b)
exact_product x y a b u v h =
    let s = u.minus in
    let t = v.minus in
    let m = u.size in
    let n = v.size in
    let is = ap₂ (λ (p q : ℤ). p *ℤ q) u.is v.is ∙ signed_product s t m n in
    record {
      minus = unlike s t;
      size = m * n;
      value = exact x y s t m n u.value v.value (subst (λ (k : ℕ). k < 2 ^ 53) (ap nat_abs is ∙ size_signed (unlike s t) (m * n)) h);
      is = is;
    }
