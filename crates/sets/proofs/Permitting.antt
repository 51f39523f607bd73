-- A set is permitted exactly if each row stands in it as it may, its wind and earthquake rows may act together, and some row raises the
-- combination.
use Prim.Native.Nat.{ℕ, ◌^◌, ◌<◌}
use Rattle.sets.specs.declared.Combination.{Combination}
use Rattle.sets.specs.declared.Loads.{Loads}
use Rattle.sets.specs.Sets.{bit, row, Mixed, Permitted}
use Rattle.sets.specs.steps.Deciding.{RowFits, Arises}
use Rattle.sets.proofs.Occasions.{arises_erected}

module _ (combination : Combination) (loads : Loads) (set : ℕ) where
  unfoldable pub Fit : Type 0
  Fit = (set < 2 ^ loads.count) × ((i : ℕ) → i < loads.count → RowFits combination (row loads i) set (bit set i))

  pub permitted_fits : Permitted combination loads set → Fit
  unfolding Fit
  permitted_fits p = (p.within, λ i h. record { acting = p.acting i h; permanent = p.permanent i h; trained = p.trained i h })

  pub fits_permitted : Fit → Arises combination loads → 0 < set → Mixed combination loads set → Permitted combination loads set
  unfolding Fit
  fits_permitted f arises some mixed =
      record {
        some = some;
        within = f.0;
        permanent = λ i h. (f.1 i h).permanent;
        acting = λ i h. (f.1 i h).acting;
        mixed = mixed;
        trained = λ i h. (f.1 i h).trained;
        erection = arises_erected loads combination arises;
      }
