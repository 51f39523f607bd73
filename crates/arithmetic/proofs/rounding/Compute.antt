-- Tests that antt computes, and the laws that turn each into the definition: a number is the least that reaches a bound, under a function that never falls,
-- where it does and the number before it does not; and exact where it gives the bound itself.
use mathlib.Core.Path.{◌≡◌}
use mathlib.Core.Bool.{Bool, true, false, not}
use Prim.Native.Nat.{ℕ, suc, ◌*◌, ◌^◌, ◌≤◌}
use native.Mathlib.Nat.{le_of_suc-le-suc, lt_of_le_of_lt, lt_of_mul-lt-mul_right, mul-le-mul_left, mul-le-mul_right, pow-le-pow_left}
use lib.Dec.{T, leb, ltb, eqb, leb→le, ltb→lt}
use Rattle.arithmetic.specs.decides.Decides.{Decides}
use Rattle.arithmetic.specs.rounding.Least.{Least, RoundedUp, RoundedDown}
use Rattle.arithmetic.specs.rounding.Rounding.{LeastReaching, RoundsUp}
use Rattle.arithmetic.proofs.Deciding.{decides_equal}
use Rattle.arithmetic.proofs.rounding.Laws.{Rises, before, least_by}
use Rattle.arithmetic.proofs.rounding.Tables.{both, both_first, both_second}

abbrev pub is_least : (ℕ → ℕ) → ℕ → ℕ → Bool
is_least f a n = both (leb a (f n)) (before f a n)

pub least_test : (f : ℕ → ℕ) → Rises f → (a n : ℕ) → T (is_least f a n) → Least (λ m. a ≤ f m) n
least_test f rises a n t = least_by f rises a n (both_first (leb a (f n)) (before f a n) t) (both_second (leb a (f n)) (before f a n) t)

-- whether what is told of exactness is what a test says
abbrev pub is_told : Bool → Bool → Bool
is_told true whole = whole
is_told false whole = not whole

pub told_test : (P : Type 0) (exact whole : Bool) → T (is_told exact whole) → Decides whole P → Decides exact P
told_test P true true t h = h
told_test P true false t h = absurd t
told_test P false true t h = absurd t
told_test P false false t h = h

abbrev pub is_reaching : (ℕ → ℕ) → ℕ → ℕ → Bool → Bool
is_reaching f a n exact = both (is_least f a n) (is_told exact (eqb (f n) a))

pub reaching_test : (f : ℕ → ℕ) → Rises f → (a n : ℕ) (exact : Bool) → T (is_reaching f a n exact) → LeastReaching f a n exact
reaching_test f rises a n exact t =
    let told = is_told exact (eqb (f n) a) in
    record {
      rounded = least_test f rises a n (both_first (is_least f a n) told t);
      told = told_test (f n ≡ a) exact (eqb (f n) a) (both_second (is_least f a n) told t) (decides_equal (f n) a);
    }

-- multiples, and multiples of a cube, on either side
abbrev pub is_up : ℕ → ℕ → ℕ → Bool
is_up a b c = is_least (λ n. n * b) a c

pub up_test : (a b c : ℕ) → T (is_up a b c) → RoundedUp a b c
up_test a b c t = least_test (λ n. n * b) (λ m n h. mul-le-mul_right b h) a c t

abbrev pub rounds_up : ℕ → ℕ → ℕ → Bool → Bool
rounds_up a b c exact = is_reaching (λ n. n * b) a c exact

pub rounds_up_test : (a b c : ℕ) (exact : Bool) → T (rounds_up a b c exact) → RoundsUp a b c exact
rounds_up_test a b c exact t = reaching_test (λ n. n * b) (λ m n h. mul-le-mul_right b h) a c exact t

pub cube_test : (k a d : ℕ) (exact : Bool) → T (is_reaching (λ n. n ^ 3 * k) a d exact) → LeastReaching (λ n. n ^ 3 * k) a d exact
cube_test k a d exact t = reaching_test (λ n. n ^ 3 * k) (λ m n h. mul-le-mul_right k (pow-le-pow_left h 3)) a d exact t

pub cube_test' : (k a d : ℕ) (exact : Bool) → T (is_reaching (λ n. k * n ^ 3) a d exact) → LeastReaching (λ n. k * n ^ 3) a d exact
cube_test' k a d exact t = reaching_test (λ n. k * n ^ 3) (λ m n h. mul-le-mul_left k (pow-le-pow_left h 3)) a d exact t

abbrev pub is_down : ℕ → ℕ → ℕ → Bool
is_down a b c = both (leb (c * b) a) (ltb a (suc c * b))

pub down_test : (a b c : ℕ) → T (is_down a b c) → RoundedDown a b c
down_test a b c t = record {
  holds = leb→le (c * b) a (both_first (leb (c * b) a) (ltb a (suc c * b)) t);
  greatest = λ m p. le_of_suc-le-suc (lt_of_mul-lt-mul_right b (lt_of_le_of_lt p (ltb→lt a (suc c * b) (both_second (leb (c * b) a) (ltb a (suc c * b)) t))));
}
