-- The first rows, one row more at a time: what holds of the rows passed and of one row more.
use mathlib.Core.Path.{◌≡◌}
use mathlib.Core.Logic.{◌⊎◌, inl, inr, ⊎_elim}
use mathlib.Core.List.{List, [], ◌∷◌, ◌++◌}
use Prim.Native.Nat.{ℕ, zero, suc, ◌+◌, ◌≤◌, ◌<◌}
use native.Mathlib.Omega.{arith}
use lib.ListN.{get_or, length, take}
use Rattle.kinds.specs.declared.Kind.TheVariants.{B}
use Rattle.kinds.specs.declared.Row.{Row}
use Rattle.kinds.specs.Table.{blank_numbers}
use Rattle.kinds.specs.classes.Classes.{class_of, optional}
use Rattle.earth.specs.coefficients.Coefficients.{Coefficient}
use Rattle.sets.specs.declared.Load.{Load}
use Rattle.sets.specs.Sets.{blank_load}
use Rattle.loads.specs.forces.Exerts.{Exerts}
use Rattle.loads.specs.LoadRows.{Every, optionals, Laid}
use Rattle.loads.specs.steps.Asking.{AnyRow}

-- row i, from 0; past the last an empty one
unfoldable pub load_row : List Row → ℕ → Row
load_row rows i = get_or rows i (record { kind = B; numbers = blank_numbers })

-- ---- what holds of every row, and of some row
module _ (P : Row → Type 0) where
  pub every_at : (rows : List Row) → Every P rows → (i : ℕ) → i < length rows → P (load_row rows i)
  unfolding Every load_row
  every_at [] all i h = absurd (omega arith)
  every_at (x ∷ rows) all zero h = all.0
  every_at (x ∷ rows) all (suc i) h = every_at rows all.1 i (omega arith)

  pub every_first : (rows : List Row) (n : ℕ) → n ≤ length rows → ((i : ℕ) → i < n → P (load_row rows i)) → Every P (take n rows)
  unfolding Every load_row
  every_first rows zero h each = tt
  every_first [] (suc n) h each = absurd (omega arith)
  every_first (x ∷ rows) (suc n) h each = (each 0 (omega arith), every_first rows n (omega arith) (λ i k. each (suc i) (omega arith)))

  pub some_last : (rows : List Row) (r : Row) → P r → AnyRow P (rows ++ r ∷ [])
  unfolding AnyRow
  some_last [] r p = inl p
  some_last (x ∷ rows) r p = inr (some_last rows r p)

  pub some_more : (rows : List Row) (r : Row) → AnyRow P rows → AnyRow P (rows ++ r ∷ [])
  unfolding AnyRow
  some_more [] r s = absurd s
  some_more (x ∷ rows) r s = ⊎_elim inl (λ t. inr (some_more rows r t)) s

  -- and, of one row more, of one of those passed or of it
  pub some_either : (rows : List Row) (r : Row) → AnyRow P (rows ++ r ∷ []) → AnyRow P rows ⊎ P r
  unfolding AnyRow
  some_either [] r s = ⊎_elim inr inl s
  some_either (x ∷ rows) r s = ⊎_elim (λ p. inl (inl p)) (λ t. ⊎_elim (λ u. inl (inr u)) inr (some_either rows r t)) s

  -- some row of them has it, and what every row has
  pub some_row : {A : Type 0} (rows : List Row) → AnyRow P rows → ((r : Row) → P r → ((Q : Row → Type 0) → Every Q rows → Q r) → A) → A
  unfolding AnyRow Every
  some_row [] s f = absurd s
  some_row (x ∷ rows) s f = ⊎_elim (λ p. f x p (λ Q all. all.0)) (λ t. some_row rows t (λ r p one. f r p (λ Q all. one Q all.1))) s

  pub none_some : (rows : List Row) → (AnyRow P rows → ⊥) → Every (λ row. P row → ⊥) rows
  unfolding AnyRow Every
  none_some [] n = tt
  none_some (x ∷ rows) n = ((λ p. n (inl p)), none_some rows (λ s. n (inr s)))

-- what holds of every row, where something else does
pub every_map : (P Q : Row → Type 0) → ((row : Row) → P row → Q row) → (rows : List Row) → Every P rows → Every Q rows
unfolding Every
every_map P Q f [] all = tt
every_map P Q f (x ∷ rows) all = (f x all.0, every_map P Q f rows all.1)

-- ---- how many rows are optional
pub optionals_more : (rows : List Row) (r : Row) → optionals (rows ++ r ∷ []) ≡ optionals rows + optional (class_of r.kind)
unfolding optionals
optionals_more [] r = omega arith
optionals_more (x ∷ rows) r = omega (arith, optionals_more rows r)

-- ---- the loads of the rows, and of the first n
module _ (fill : ℕ → ℕ → Coefficient) where
  pub laid_at : (rows : List Row) (loads : List Load) → Laid fill rows loads → (i : ℕ) → i < length rows → Exerts fill (load_row rows i) (get_or loads i blank_load)
  unfolding Laid load_row
  laid_at [] loads l i h = absurd (omega arith)
  laid_at (x ∷ rows) [] l i h = absurd l
  laid_at (x ∷ rows) (y ∷ loads) l zero h = l.0
  laid_at (x ∷ rows) (y ∷ loads) l (suc i) h = laid_at rows loads l.1 i (omega arith)

  none_laid : (loads : List Load) → ((i : ℕ) → get_or loads i blank_load ≡ blank_load) → Laid fill [] loads
  unfolding Laid
  none_laid [] rest = tt
  none_laid (l ∷ loads) rest = (rest 0, none_laid loads (λ i. rest (suc i)))

  pub first_laid : (rows : List Row) (n : ℕ) (loads : List Load) → n ≤ length rows → n ≤ length loads
      → ((i : ℕ) → i < n → Exerts fill (load_row rows i) (get_or loads i blank_load)) → ((i : ℕ) → n ≤ i → get_or loads i blank_load ≡ blank_load) → Laid fill (take n rows) loads
  unfolding Laid load_row
  first_laid rows zero loads h k each rest = none_laid loads (λ i. rest i (omega arith))
  first_laid [] (suc n) loads h k each rest = absurd (omega arith)
  first_laid (r ∷ rows) (suc n) [] h k each rest = absurd (omega arith)
  first_laid (r ∷ rows) (suc n) (l ∷ loads) h k each rest =
      (each 0 (omega arith), first_laid rows n loads (omega arith) (omega arith) (λ i m. each (suc i) (omega arith)) (λ i m. rest (suc i) (omega arith)))
