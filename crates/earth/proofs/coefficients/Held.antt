-- What a number that is held says: a coefficient from 1 to 40,000, and outside of these nothing.
use mathlib.Core.Path.{◌≡◌, refl}
use mathlib.Core.Bool.{Bool, true, false, cond, ◌&&◌}
use mathlib.Core.List.{List, []}
use Prim.Native.Nat.{ℕ, zero, suc, ◌-◌, ◌≤◌}
use native.Mathlib.Omega.{arith}
use lib.Dec.{leb}
use lib.ListN.{get_or}
use Rattle.arithmetic.specs.decides.Decides.{Decides}
use Rattle.arithmetic.proofs.Tests.{decides_within}
use Rattle.earth.specs.coefficients.Coefficients.{Coefficient}
use Rattle.earth.specs.coefficients.Lent.{coefficient, fill_of}
use Rattle.earth.specs.steps.LowCoefficient.{LowCoefficient}
use Rattle.std.proofs.Common.{None, Some}

-- "value (1 to 40,000)"
abbrev pub IsValue : ℕ → Type 0
IsValue n = (1 ≤ n) × (n ≤ 40000)

-- what a number says, whether or not it is a value
either_way : (P : Coefficient → Type 0) (n : ℕ) → (IsValue n → P (Some n)) → ((IsValue n → ⊥) → P None) → P (coefficient n)
unfolding coefficient
either_way P n is none = go (leb 1 n && leb n 40000) (decides_within 1 40000 n)
  where
    go : (b : Bool) → Decides b (IsValue n) → P (cond b (Some n) None)
    go true d = is d
    go false d = none d

pub coefficient_value : (n : ℕ) → IsValue n → coefficient n ≡ Some n
coefficient_value n h = either_way (λ (k : Coefficient). k ≡ Some n) n (λ d. refl) (λ d. absurd (d h))

pub coefficient_blank : (n : ℕ) → (IsValue n → ⊥) → coefficient n ≡ None
coefficient_blank n h = either_way (λ (k : Coefficient). k ≡ None) n (λ d. absurd (h d)) (λ d. refl)

-- what is held stands one place before its soil and its slope
pub held_at : (held : List (List ℕ)) (soil slope : ℕ) → 1 ≤ soil → 1 ≤ slope → fill_of held soil slope ≡ coefficient (get_or (get_or held (soil - 1) []) (slope - 1) 0)
unfolding fill_of
held_at held zero slope h k = absurd (omega arith)
held_at held (suc i) zero h k = absurd (omega arith)
held_at held (suc i) (suc j) h k =
    let at_soil : suc i - 1 ≡ i = omega arith in
    let at_slope : suc j - 1 ≡ j = omega arith in
    rw (at_soil, at_slope) refl

-- no coefficient that is held is above 40,000
pub fill_low : (held : List (List ℕ)) (soil slope : ℕ) → LowCoefficient (fill_of held soil slope)
unfolding fill_of
fill_low held zero slope = tt
fill_low held (suc i) zero = tt
fill_low held (suc i) (suc j) = either_way LowCoefficient (get_or (get_or held i []) j 0) (λ d. d.1) (λ d. tt)
