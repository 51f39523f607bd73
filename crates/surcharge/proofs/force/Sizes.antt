-- How many kg a metre the two forces are at most.
use Prim.Native.Nat.{ℕ, ◌+◌, ◌*◌, ◌≤◌}
use native.Mathlib.Nat.{le_refl, mul-le-mul}
use native.Mathlib.Omega.{arith}

module _ (T k B h s : ℕ) (heavy : T ≤ 36300) (pressing : k ≤ 100) (wide : 1800 ≤ B) where
  pub first_small : h ≤ 15000 → T * h * k ≤ 302500 * (100 * (B + s))
  first_small deep = let product = mul-le-mul (mul-le-mul heavy deep) pressing in omega arith

  pub second_small : s ≤ 15000 → T * (s * s) * k ≤ 151250 * (200 * B * (B + s))
  second_small deep =
      let reached : s * s ≤ 15000 * (B + s) = mul-le-mul deep (omega arith) in
      let product = mul-le-mul (mul-le-mul heavy reached) pressing in
      let broad : 200 * 1800 * (B + s) ≤ 200 * B * (B + s) = mul-le-mul (omega arith) (le_refl (B + s)) in
      omega arith
