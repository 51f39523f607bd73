-- The loads of a job, one row more at a time; past its rows there is no load.
use mathlib.Core.Path.{◌≡◌, refl, ◌∙◌, ap, subst, subst⁻¹}
use mathlib.Core.List.{List}
use borrow.Author.Count.{below_more}
use lib.ListN.{get_or, length, set, replicate, length-replicate, length-set}
use lib.Seq.{take_all, get_or-set_same, get_or-set_other}
use Prim.Native.Nat.{ℕ, zero, suc, ◌+◌, ◌≤◌, ◌<◌}
use native.Mathlib.Omega.{arith}
use Rattle.kinds.specs.declared.Row.{Row}
use Rattle.earth.specs.coefficients.Coefficients.{Coefficient}
use Rattle.sets.specs.declared.Load.{Load}
use Rattle.sets.specs.Sets.{blank_load}
use Rattle.loads.specs.forces.Exerts.{Exerts}
use Rattle.loads.specs.LoadRows.{Laid, AreLoads}
use Rattle.loads.proofs.FirstRows.{load_row, first_laid}

pub all_no_load : (n j : ℕ) → get_or (replicate n blank_load) j blank_load ≡ blank_load
all_no_load zero j = refl
all_no_load (suc n) zero = refl
all_no_load (suc n) (suc j) = all_no_load n j

module _ (fill : ℕ → ℕ → Coefficient) (rows : List Row) where
  unfoldable pub LaidFirst : ℕ → List Load → Type 0
  LaidFirst n loads = (length loads ≡ 16) × ((j : ℕ) → j < n → Exerts fill (load_row rows j) (get_or loads j blank_load)) × ((j : ℕ) → n ≤ j → get_or loads j blank_load ≡ blank_load)

  pub laid_none : {x : Load} → x ≡ blank_load → LaidFirst 0 (replicate 16 x)
  unfolding LaidFirst
  laid_none {x} e =
      (length-replicate 16 x, (λ j h. absurd (omega arith)), λ j h. ap (λ (y : Load). get_or (replicate 16 y) j blank_load) e ∙ all_no_load 16 j)

  pub laid_more : (n : ℕ) (loads : List Load) {load : Load} → n < 16 → LaidFirst n loads → Exerts fill (load_row rows n) load → LaidFirst (n + 1) (set loads n load)
  unfolding LaidFirst
  laid_more n loads {load} h l e = (
    length-set loads n load ∙ l.0,
    below_more _ n (λ j k. subst⁻¹ (Exerts fill (load_row rows j)) (get_or-set_other loads n j load blank_load (λ d. omega arith)) (l.1 j k))
        (subst⁻¹ (Exerts fill (load_row rows n)) (get_or-set_same loads n load blank_load (omega (arith, l.0))) e),
    λ j k. get_or-set_other loads n j load blank_load (λ d. omega arith) ∙ l.2 j (omega arith),
  )

  pub laid_all : (loads : List Load) → length rows ≤ 16 → LaidFirst (length rows) loads → AreLoads fill rows (record { count = length rows; loads = loads })
  unfolding LaidFirst
  laid_all loads few l =
      record {
        count = refl;
        places = l.0;
        laid = subst (λ (x : List Row). Laid fill x loads) (take_all (length rows) rows (omega arith)) (first_laid fill rows (length rows) loads (omega arith) (omega (arith, l.0)) l.1 l.2);
      }
