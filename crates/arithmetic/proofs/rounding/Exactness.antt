-- The laws of exactness: a rounding tells one value and one exactness; a quotient is exact where rounding up and rounding down meet, which is
-- where division leaves nothing.
use mathlib.Core.Path.{◌≡◌, sym, subst}
use mathlib.Core.Bool.{Bool, true, false}
use Prim.Native.Nat.{ℕ, ◌+◌, ◌/◌, ◌%◌, ◌<◌}
use native.Mathlib.Nat.{le_of_eq, le_antisymm, le_of_mul-le-mul_right, div-add-mod'}
use native.Mathlib.Omega.{arith}
use lib.Dec.{eqb}
use Rattle.arithmetic.specs.decides.Decides.{Decides}
use Rattle.arithmetic.specs.rounding.Least.{RoundedUp, RoundedDown}
use Rattle.arithmetic.specs.rounding.Rounding.{Rounding, Exactly, RoundsUp}
use Rattle.arithmetic.proofs.Deciding.{decides_one, decides_same, decides_equal}
use Rattle.arithmetic.proofs.rounding.Laws.{next, down_div, up_exact, up_more}

-- a rule with one value tells one value and one exactness
pub rounding_one : {A : Type 0} {Rule Exact : A → Type 0} {v w : A} {e f : Bool} → (Rule v → Rule w → v ≡ w) → Rounding Rule Exact v e → Rounding Rule Exact w f → (v ≡ w) × (e ≡ f)
rounding_one {A} {Exact = Exact} {v} {w} {e} {f} one p q =
    let same = one p.rounded q.rounded in
    (same, decides_one (Exact w) e f (subst (λ (x : A). Decides e (Exact x)) same p.told) q.told)

-- nothing is rounded away exactly where a number is a quotient rounded up and rounded down at once
pub exact_up : (a b c : ℕ) → 0 < b → Exactly a b c → RoundedUp a b c
exact_up a b c pos e = record { holds = le_of_eq (sym e); least = λ m p. le_of_mul-le-mul_right (rw e p) pos }

pub exact_down : (a b c : ℕ) → 0 < b → Exactly a b c → RoundedDown a b c
exact_down a b c pos e = record { holds = le_of_eq e; greatest = λ m p. le_of_mul-le-mul_right (rw e p) pos }

pub meet_exact : (a b c : ℕ) → RoundedUp a b c → RoundedDown a b c → Exactly a b c
meet_exact a b c p q = le_antisymm q.holds p.holds

-- what division leaves tells which
module _ (a b : ℕ) (pos : 0 < b) where
  whole : a % b ≡ 0 → Exactly a b (a / b)
  whole e = omega (arith, div-add-mod' a b)

  pub up_whole : a % b ≡ 0 → RoundsUp a b (a / b) true
  up_whole e = record { rounded = up_exact a b pos e; told = whole e }

  pub up_rest : (a % b ≡ 0 → ⊥) → RoundsUp a b (a / b + 1) false
  up_rest e = record { rounded = up_more a b pos e; told = λ x. omega (arith, x, next a b pos) }

  pub down_told : Rounding (RoundedDown a b) (Exactly a b) (a / b) (eqb (a % b) 0)
  down_told = record {
    rounded = down_div a b pos;
    told = decides_same (eqb (a % b) 0) whole (λ x. omega (arith, x, div-add-mod' a b)) (decides_equal (a % b) 0);
  }
