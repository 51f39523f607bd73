-- The loads are bounded, where they are given.
use Rattle.std.proofs.Common.{ℕ, [], ◌∷◌, Result, Ok, Err, Option, IfSome, subst, sym}
use Rattle.std.specs.Result.{result_ok}
use Rattle.earth.specs.coefficients.Coefficients.{Coefficient}
use Rattle.earth.specs.steps.LowCoefficient.{LowCoefficient}
use Rattle.loads.specs.Answer.{LoadsSays, loads_told}
use Rattle.kinds.specs.declared.Row.{Row}
use Rattle.kinds.specs.declared.refusals.JobRefusal.{JobRefusal}
use Rattle.sets.specs.declared.Loads.{Loads}
use Rattle.sets.specs.Bounded.{Bounded}
use Rattle.earth.proofs.coefficients.Held.{fill_low}
use Rattle.loads.proofs.Answering.{given_bounded}
use Rattle.figures_run.proofs.forces.loads_of_row.Goals as goal

bounded : {fill : ℕ → ℕ → Coefficient} {row : Row} (r : Result Loads JobRefusal) → ((soil slope : ℕ) → LowCoefficient (fill soil slope)) → LoadsSays fill (row ∷ []) (loads_told r)
    → IfSome (result_ok r) Bounded
bounded {row = row} (Ok loads) low a = given_bounded _ low (row ∷ []) 1 loads a
bounded (Err refusal) low a = tt

pub returns : goal.returns
returns c = subst (λ (l : Option Loads). IfSome l Bounded) (sym c.ok.ensures.value) (bounded c.loads_of.result (fill_low _) c.loads_of.ensures)
