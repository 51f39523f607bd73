-- A word has nothing behind the comma; of a number `put_exactness` says the rest.
use mathlib.Core.Path.{◌≡◌, ap}
use mathlib.Core.Bool.{Bool}
use mathlib.Core.Logic.{◌⊎◌, inl, inr}
use native.Mathlib.Omega.{arith}
use Rattle.checks.specs.declared.Figure.{Figure}
use Rattle.checks.specs.declared.Figure.TheVariants.{Nothing, Off}
use Rattle.lines.specs.Lines.{figure_exactness, unsaid}
use Rattle.printing.specs.line_fields.Text.{exactness_text}
use Rattle.printing.specs.steps.Ending.{ending}
use Rattle.block.proofs.Pages.{spelled, put_as}
use Rattle.printing.proofs.put_ending.Goals as goal

word : (figure : Figure) (exact : Bool) → (figure ≡ Nothing) ⊎ (figure ≡ Off) → figure_exactness figure exact ≡ unsaid
unfolding figure_exactness
word figure exact (inl e) = ap (λ (f : Figure). figure_exactness f exact) e
word figure exact (inr e) = ap (λ (f : Figure). figure_exactness f exact) e

pub returns-in-Nothing : goal.returns-in-Nothing
unfolding exactness_text
returns-in-Nothing c = spelled _ _ _ _ _ (ap ending (word _ c.args.exact c.in-Nothing.is)) c.put.ensures tt

pub returns-in-Number : goal.returns-in-Number
unfolding figure_exactness
returns-in-Number c =
    put_as _ _ _ _ 4 4 (ap (λ (figure : Figure). ending (figure_exactness figure c.args.exact)) c.in-Number.is) (omega arith) c.put_exactness.ensures
