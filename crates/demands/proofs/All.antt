-- What holds of every one in a list, and of some one.
use Prim.Native.Nat.{ℕ, ◌+◌}
use native.Mathlib.Omega.{arith}
use mathlib.Core.Path.{refl, ap, subst}
use mathlib.Core.List.{List, [], ◌∷◌, ◌++◌}
use Rattle.csv_text.specs.Nth.{Nth}

pub data All {A : Type 0} (P : A → Type 0) : List A → Type 0 where
  none : All P []
  more : {x : A} {xs : List A} → P x → All P xs → All P (x ∷ xs)

module _ {A : Type 0} {P : A → Type 0} where
  pub all_first : {x : A} {xs : List A} → All P (x ∷ xs) → P x
  all_first (more p ps) = p

  pub all_append : {xs ys : List A} → All P xs → All P ys → All P (xs ++ ys)
  all_append none q = q
  all_append (more p ps) q = more p (all_append ps q)

  pub all_front : (xs ys : List A) → All P (xs ++ ys) → All P xs
  all_front [] ys p = none
  all_front (x ∷ xs) ys (more p ps) = more p (all_front xs ys ps)

  pub all_behind : (xs ys : List A) → All P (xs ++ ys) → All P ys
  all_behind [] ys p = p
  all_behind (x ∷ xs) ys (more p ps) = all_behind xs ys ps

  pub all_at : {xs : List A} {n : ℕ} {x : A} → All P xs → Nth xs n x → P x
  all_at {x = x} p r = all_first (all_behind r.before (x ∷ r.behind) (subst (All P) r.are p))

pub data Some {A : Type 0} (P : A → Type 0) : List A → Type 0 where
  here : {x : A} {xs : List A} → P x → Some P (x ∷ xs)
  later : {x : A} {xs : List A} → Some P xs → Some P (x ∷ xs)

module _ {A : Type 0} {P : A → Type 0} where
  pub some_front : {xs : List A} (ys : List A) → Some P xs → Some P (xs ++ ys)
  some_front ys (here p) = here p
  some_front ys (later p) = later (some_front ys p)

  pub some_behind : (xs : List A) {ys : List A} → Some P ys → Some P (xs ++ ys)
  some_behind [] p = p
  some_behind (x ∷ xs) p = later (some_behind xs p)

  pub some_at : {xs : List A} → Some P xs → (n : ℕ) × (x : A) × Nth xs n x × P x
  some_at (here {x} {xs} p) = (1, x, record { before = []; behind = xs; are = refl; number = refl }, p)
  some_at (later {x} p) =
      let w = some_at p in
      let r = w.2 in
      let n = r.number in
      (w.0 + 1, w.1, record { before = x ∷ r.before; behind = r.behind; are = ap (λ (l : List A). x ∷ l) r.are; number = omega arith }, w.3)
