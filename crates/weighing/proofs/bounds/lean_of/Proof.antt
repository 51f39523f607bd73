-- The two cases of the definition.
use borrow.Author.Rules.{rules}
use mathlib.Core.Path.{sym, ◌∙◌, ap}
use Prim.Native.Nat.{ℕ, ◌*◌}
use native.Mathlib.Omega.{arith}
use Rattle.weighing.proofs.bounds.Bounding.{number_most, lean_on_rock, lean_on_soil}
use Rattle.weighing.proofs.bounds.lean_of.Statement.{statement}
use Rattle.weighing.proofs.bounds.lean_of.Tie as tie

number-below-requires : tie.Need-number_below-requires
number-below-requires c κs = search rules

mul-result : tie.Need-overflow_mul-result
mul-result c = omega (arith, c.number_below.ensures, number_most 499 c.args.rank)

returns : tie.Need-returns-then-rock
returns c = let a = c.args in ap (λ (n : ℕ). 2 * n) c.number_below.ensures ∙ sym (lean_on_rock a.rock a.rank c.if-rock.true)

mul-result-2 : tie.Need-overflow_mul-result-2
mul-result-2 c = search rules

returns-2 : tie.Need-returns
returns-2 c = let a = c.args in sym (lean_on_soil a.rock a.rank c.if-rock.false)

pub lean_of_spec : {M : Type 1} → statement M
lean_of_spec = tie.close (tie.spec number-below-requires mul-result returns mul-result-2 returns-2)
