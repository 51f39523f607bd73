-- `nearest` meets its contract: a double that is not a number is near none, and any other is what its own bits stand for.
use mathlib.Core.Path.{◌≡◌, sym, subst}
use mathlib.Core.Bool.{false, not}
use lib.Dec.{T}
use lib.Ieee.{Float, nan, inf, fin, binary64, is_nan, ne}
use lib.Ieee.Bits.{of_bits-to_bits}
use lib.Ieee.Compare.{differs_from_itself, nan_differs}
use Rattle.arithmetic.proofs.Deciding.{not_both}
use Rattle.doubles.specs.Doubles.{Nearest}
use Rattle.doubles.specs.Answers.{NearestIs}
use Rattle.doubles.proofs.nearest.Goals as goal

-- what equals itself is a number
number : (x : Float) → ne x x ≡ false → T (not (is_nan x))
unfolding is_nan
number nan e = absurd (not_both nan_differs e)
number (inf s) e = tt
number (fin s m e) h = tt

pub returns-then-x : goal.returns-then-x
returns-then-x c = λ z v. absurd (subst (λ (x : Float). Nearest x z) (differs_from_itself c.args.x (subst T (sym c.if-x.true) tt)) v)

pub float_to_bits-x : goal.float_to_bits-x
float_to_bits-x c = number c.args.x c.if-x.false

pub returns : goal.returns
returns c =
    subst (λ (x : Float). NearestIs x c.nearest_of.result) (of_bits-to_bits binary64 c.args.x (subst T (sym c.well_formed.0.1) tt))
    c.nearest_of.ensures
