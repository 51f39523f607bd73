-- Lists by their first entries, by their last, and by two cuts of one list. Other crates' proofs cite them.
use native.Mathlib.Omega.{arith}
use mathlib.Core.Path.{◌≡◌, refl}
use mathlib.Core.List.{List, [], ◌∷◌, ◌++◌}
use lib.ListN.{length}
use Rattle.arithmetic.proofs.Cases.{impossible}

pub nil_cons : {A : Type 0} {a : A} {s : List A} → [] ≡ a ∷ s → ⊥
nil_cons e = impossible cc

pub heads : {A : Type 0} {a b : A} {s t : List A} → a ∷ s ≡ b ∷ t → a ≡ b
heads e = cc

pub tails : {A : Type 0} {a b : A} {s t : List A} → a ∷ s ≡ b ∷ t → s ≡ t
tails e = cc

pub conses : {A : Type 0} {a b : A} {s t : List A} → a ≡ b → s ≡ t → a ∷ s ≡ b ∷ t
conses p q = cc

pub not_empty : {A : Type 0} (xs : List A) (x : A) → xs ++ x ∷ [] ≡ [] → ⊥
not_empty [] x e = impossible cc
not_empty (y ∷ xs) x e = impossible cc

pub lasts : {A : Type 0} (xs ys : List A) (x y : A) → xs ++ x ∷ [] ≡ ys ++ y ∷ [] → (xs ≡ ys) × (x ≡ y)
lasts [] [] x y e = (refl, heads e)
lasts [] (b ∷ ys) x y e = absurd (not_empty ys y cc)
lasts (a ∷ xs) [] x y e = absurd (not_empty xs x cc)
lasts (a ∷ xs) (b ∷ ys) x y e =
    let w = lasts xs ys x y (tails e) in
    (conses (heads e) w.0, w.1)

-- two cuts of a list behind as many entries are one
pub level : {A : Type 0} (os cs bs ds : List A) (x y : A) → os ++ x ∷ bs ≡ cs ++ y ∷ ds → length os ≡ length cs → (os ≡ cs) × (x ≡ y)
level [] [] bs ds x y e h = (refl, heads e)
level [] (c ∷ cs) bs ds x y e h = absurd (omega arith)
level (a ∷ os) [] bs ds x y e h = absurd (omega arith)
level (a ∷ os) (c ∷ cs) bs ds x y e h =
    let w = level os cs bs ds x y (tails e) (omega arith) in
    (conses (heads e) w.0, w.1)
