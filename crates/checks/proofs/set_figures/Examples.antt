-- Document 01, The printed answer, and 02, P3: the figures of OP and OM in the whole example, as theorems about the definitions. Each is a computed test. (The
-- starred figures are a list of their own, in the crate `figures`.)
use mathlib.Core.Path.{refl}
use mathlib.Core.Bool.{false}
use mathlib.Core.List.{[], ◌∷◌}
use Prim.Native.Nat.{ℕ, ◌*◌}
use lib.Dec.{T, ltb, lit<}
use Rattle.arithmetic.proofs.rounding.Compute.{is_down, down_test}
use Rattle.arithmetic.specs.declared.signed.Amount.{Amount}
use Rattle.arithmetic.specs.signed.Whole.{signed, worth, above, below}
use Rattle.sets.specs.declared.Class.TheVariants.{Permanent, Free}
use Rattle.sets.specs.declared.Loads.{Loads}
use Rattle.sets.specs.Sets.{bit, row}
use Rattle.sums.specs.Totals.{counted, sum, arm, v_moment, h_moment, resists, overturns, resisting, overturning}
use Rattle.checks.specs.declared.Base.{Base}
use Rattle.checks.specs.declared.Check.TheVariants.{OP, OM}
use Rattle.checks.specs.declared.Figure.TheVariants.{Nothing, Number}
use Rattle.checks.specs.steps.Rounded.{Tips}
use Rattle.checks.specs.set_figures.Figures.{Shows}

pub plain : ℕ → Amount
plain n = record { minus = false; size = n }

pub base : Base
base = record { width = 4000; length = 8000; allowable = 300; friction = 600; rock = false }

-- the three rows of the example, which comes with its train since P3: the last names the second
pub three : Loads
unfolding plain
three =
    record {
      count = 3;
      loads = record { class = Permanent; phase = 0; train = 0; v = plain 6000; x = plain 0; h = plain 0; twist = plain 0 }
          ∷ record { class = Free; phase = 0; train = 0; v = plain 0; x = plain 0; h = plain 0; twist = plain 0 }
          ∷ record { class = Free; phase = 0; train = 2; v = plain 0; x = plain 0; h = plain 300; twist = plain 1800000 } ∷ [];
    }

tips : (r o v : ℕ) → T (ltb 0 o) → T (is_down (100 * r) o v) → Tips r o (Number v)
unfolding Tips
tips r o v p q = (lit< p, down_test (100 * r) o v q)

-- set 7 is all rows, and set 1 the first
pub tipping : Shows OP base three 7 (Number 666) × Shows OM base three 1 Nothing
unfolding base three plain Shows Tips resisting overturning resists overturns sum counted v_moment arm h_moment bit row worth signed above below
tipping = (tips 24000000 3600000 666 tt tt, refl)
