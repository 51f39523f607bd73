-- A bound on every entry of a table, by one test that antt computes.
use mathlib.Core.Bool.{Bool, true, false}
use mathlib.Core.List.{List, [], ◌∷◌}
use Prim.Native.Nat.{ℕ, zero, suc, ◌≤◌, zero-le}
use lib.Dec.{T, leb, leb→le}
use lib.ListN.{get_or}

abbrev pub both : Bool → Bool → Bool
both true b = b
both false b = false

pub both_first : (a b : Bool) → T (both a b) → T a
both_first true b t = tt
both_first false b t = t

pub both_second : (a b : Bool) → T (both a b) → T b
both_second true b t = t
both_second false b t = absurd t

abbrev pub all_under : ℕ → List ℕ → Bool
all_under b [] = true
all_under b (x ∷ xs) = both (leb x b) (all_under b xs)

pub under : (b : ℕ) (xs : List ℕ) → T (all_under b xs) → (k : ℕ) → get_or xs k 0 ≤ b
under b [] t k = zero-le
under b (x ∷ xs) t zero = leb→le x b (both_first (leb x b) (all_under b xs) t)
under b (x ∷ xs) t (suc k) = under b xs (both_second (leb x b) (all_under b xs) t) k

abbrev pub all_rows_under : ℕ → List (List ℕ) → Bool
all_rows_under b [] = true
all_rows_under b (r ∷ rs) = both (all_under b r) (all_rows_under b rs)

pub under_rows : (b : ℕ) (rs : List (List ℕ)) → T (all_rows_under b rs) → (i j : ℕ) → get_or (get_or rs i []) j 0 ≤ b
under_rows b [] t i j = zero-le
under_rows b (r ∷ rs) t zero j = under b r (both_first (all_under b r) (all_rows_under b rs) t) j
under_rows b (r ∷ rs) t (suc i) j = under_rows b rs (both_second (all_under b r) (all_rows_under b rs) t) i j
