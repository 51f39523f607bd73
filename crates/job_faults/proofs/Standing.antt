-- What stands at a place of a list: one thing, and the first with a property is one. What every row has, it has at every place.
use mathlib.Core.Path.{◌≡◌, refl, sym, ap, subst, ◌∙◌}
use mathlib.Core.List.{List, [], ◌∷◌, ◌++◌}
use Prim.Native.Nat.{ℕ, zero, suc, ◌+◌, ◌<◌}
use native.Mathlib.Omega.{arith}
use lib.ListN.{length, get_or, take}
use Rattle.kinds.specs.declared.Row.{Row}
use Rattle.loads.specs.LoadRows.{Every}
use Rattle.job_faults.specs.First.{StandsAt, First}

module _ {A : Type 0} where
  pub stands_one : (xs : List A) (i : ℕ) {a b : A} → StandsAt xs i a → StandsAt xs i b → a ≡ b
  unfolding StandsAt
  stands_one [] i p q = absurd p
  stands_one (x ∷ xs) zero p q = sym p ∙ q
  stands_one (x ∷ xs) (suc i) p q = stands_one xs i p q

  pub stands_below : (xs : List A) (i : ℕ) (a : A) → StandsAt xs i a → i < length xs
  unfolding StandsAt
  stands_below [] i a p = absurd p
  stands_below (x ∷ xs) zero a p = omega arith
  stands_below (x ∷ xs) (suc i) a p = let h = stands_below xs i a p in omega arith

  pub stands_there : (xs : List A) (i : ℕ) (d : A) → i < length xs → StandsAt xs i (get_or xs i d)
  unfolding StandsAt
  stands_there [] i d h = absurd (omega arith)
  stands_there (x ∷ xs) zero d h = refl
  stands_there (x ∷ xs) (suc i) d h = stands_there xs i d (omega arith)

  -- the first so many, and one more
  pub take_more : (xs : List A) (i : ℕ) (a : A) → StandsAt xs i a → take (suc i) xs ≡ take i xs ++ a ∷ []
  unfolding StandsAt
  take_more [] i a p = absurd p
  take_more (x ∷ xs) zero a p = ap (λ (y : A). y ∷ []) p
  take_more (x ∷ xs) (suc i) a p = ap (λ (ys : List A). x ∷ ys) (take_more xs i a p)

  -- what stands among the first so many
  pub stands_first : (xs : List A) (n i : ℕ) (d : A) → i < length (take n xs) → StandsAt (take n xs) i (get_or xs i d)
  unfolding StandsAt
  stands_first xs zero i d h = absurd (omega arith)
  stands_first [] (suc n) i d h = absurd (omega arith)
  stands_first (x ∷ xs) (suc n) zero d h = refl
  stands_first (x ∷ xs) (suc n) (suc i) d h = stands_first xs n i d (omega arith)

  pub first_one : {P : ℕ → A → Type 0} {xs : List A} {p q : ℕ} {a b : A} → First P xs p a → First P xs q b → (p ≡ q) × (a ≡ b)
  first_one {xs = xs} {a = a} f g =
      let e : f.place ≡ g.place = omega (arith, f.first g.place _ g.stands g.shows, g.first f.place _ f.stands f.shows) in
      (f.counted ∙ ap (λ (n : ℕ). n + 1) e ∙ sym g.counted, stands_one xs g.place (subst (λ (i : ℕ). StandsAt xs i a) e f.stands) g.stands)

-- ---- every row
module _ (P : Row → Type 0) where
  pub every_stands : (rows : List Row) → Every P rows → (i : ℕ) {r : Row} → StandsAt rows i r → P r
  unfolding Every StandsAt
  every_stands [] all i s = absurd s
  every_stands (x ∷ rows) all zero s = subst P s all.0
  every_stands (x ∷ rows) all (suc i) s = every_stands rows all.1 i s

  pub stands_every : (rows : List Row) → ((i : ℕ) (r : Row) → StandsAt rows i r → P r) → Every P rows
  unfolding Every StandsAt
  stands_every [] each = tt
  stands_every (x ∷ rows) each = (each 0 x refl, stands_every rows (λ i r s. each (suc i) r s))
