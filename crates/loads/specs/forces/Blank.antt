-- Document 01, Earth pressure, and 02, P4: nothing is held for an E row.
-- `fill` is what is held for a soil and a slope: what the two fill books say for the job's member (02, P4).
use Rattle.std.specs.Prelude.{◌≡◌, ℕ}
use Rattle.kinds.specs.declared.Row.{Row}
use Rattle.earth.specs.coefficients.Coefficients.{Coefficient}
use Rattle.earth.specs.Earth.{refused, backfill_in, Pushed}
use Rattle.kinds.specs.declared.classes.Source.TheVariants.{Earth}
use Rattle.kinds.specs.classes.Classes.{source}

-- "15 now means that neither book has a value", of an E row
unfoldable pub BlankThere : (ℕ → ℕ → Coefficient) → Row → Type 0
BlankThere fill r = (source r.kind ≡ Earth) × Pushed fill (backfill_in r.numbers) (refused 15)
