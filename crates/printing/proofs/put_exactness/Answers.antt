-- The letter that exactness is written with, and the end of the line.
use Prim.Native.Nat.{ℕ}
use mathlib.Core.Path.{◌≡◌, refl, ap}
use mathlib.Core.Bool.{Bool, true, false, cond}
use mathlib.Core.List.{List, [], ◌∷◌, ◌++◌}
use native.Mathlib.Omega.{arith}
use Rattle.lines.specs.Lines.{exactness_of}
use Rattle.printing.specs.line_fields.Text.{exactness_text}
use Rattle.block.specs.Fields.{field, line_end}
use Rattle.block.proofs.Pages.{spelled, then_put, put_as}
use Rattle.printing.proofs.put_exactness.Goals as goal

letter_of : (exact : Bool) → exactness_text (exactness_of exact) ≡ cond exact 0x45 0x52 ∷ []
unfolding exactness_text exactness_of
letter_of true = refl
letter_of false = refl

pub returns : goal.returns
returns c =
    put_as _ _ _ _ 4 4 (ap (λ (t : List ℕ). field t ++ line_end) (letter_of c.args.exact)) (omega arith)
    (then_put _ _ _ _ _ 2 2 c.put_letter.ensures (spelled _ _ _ _ 2 refl c.put.ensures tt))
