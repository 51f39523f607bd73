-- A figure that is no worse than one that passes passes too.
use Prim.Native.Nat.{ℕ}
use native.Mathlib.Omega.{arith}
use Rattle.checks.specs.declared.Figure.{Figure}
use Rattle.checks.specs.declared.Figure.TheVariants.{Nothing, Number, Off}
use Rattle.checks.specs.Order.{Side, lowest, highest, WorseNumber, Worse}
use Rattle.checks.specs.passing.Passing.{PassesNumber, Passes}

number_passes : (s : Side) (limit a b : ℕ) → (WorseNumber s b a → ⊥) → PassesNumber s limit a → PassesNumber s limit b
unfolding WorseNumber PassesNumber
number_passes lowest limit a b n p = omega arith
number_passes highest limit a b n p = omega arith

pub passes_better : (s : Side) (limit : ℕ) (v w : Figure) → (Worse s w v → ⊥) → Passes s limit v → Passes s limit w
unfolding Worse Passes
passes_better s limit Nothing Nothing n p = tt
passes_better s limit Nothing (Number b) n p = absurd (n tt)
passes_better s limit Nothing Off n p = n tt
passes_better s limit (Number a) Nothing n p = tt
passes_better s limit (Number a) (Number b) n p = number_passes s limit a b n p
passes_better s limit (Number a) Off n p = n tt
passes_better s limit Off w n p = absurd p
