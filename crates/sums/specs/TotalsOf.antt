-- What `totals_of` answers: all sums of a set.
use Rattle.std.specs.Prelude.{ℕ}
use Rattle.arithmetic.specs.signed.Whole.{amount}
use Rattle.sets.specs.declared.Loads.{Loads}
use Rattle.sums.specs.declared.Totals.{Totals}
use Rattle.sums.specs.Totals.{N, H, M, resisting, overturning, minus, plus}

unfoldable pub totals_from : ℕ → Loads → ℕ → Totals
totals_from width loads set =
    record {
      n = amount (N loads set);
      h = amount (H loads set);
      m = amount (M loads set);
      plus = record { resisting = resisting plus width loads set; overturning = overturning plus width loads set };
      minus = record { resisting = resisting minus width loads set; overturning = overturning minus width loads set };
    }
