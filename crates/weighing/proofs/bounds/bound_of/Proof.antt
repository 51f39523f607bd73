-- The three cases of the definition; a rank that is multiplied out is small.
use borrow.Author.Rules.{rules}
use mathlib.Core.Path.{sym}
use Prim.Native.Nat.{◌+◌, ◌≤◌}
use native.Mathlib.Nat.{mul-le-mul}
use native.Mathlib.Omega.{arith}
use Rattle.weighing.proofs.bounds.Bounding.{bound_free, bound_multiplied, bound_none}
use Rattle.weighing.proofs.bounds.bound_of.Statement.{statement}
use Rattle.weighing.proofs.bounds.bound_of.Tie as tie

returns : tie.Need-returns-then-not-weighed
returns c = let a = c.args in sym (bound_free a.weighed a.against a.favour a.rank c.if-not-weighed.true)

add-t6 : tie.Need-overflow_add-result
add-t6 c = search rules

mul-t7 : tie.Need-overflow_mul-result
mul-t7 c =
    let few : c.args.against ≤ 10 = search rules in
    let low : c.args.rank + 1 ≤ 16777216 = search rules in
    omega (arith, mul-le-mul few low)

returns-2 : tie.Need-returns-then-rank-lt-MULTIPLIED_OUT
returns-2 c =
    let a = c.args in
    sym (bound_multiplied a.weighed a.against a.favour a.rank c.if-not-weighed.false c.if-rank-lt-MULTIPLIED_OUT.true)

returns-3 : tie.Need-returns
returns-3 c =
    let a = c.args in
    sym (bound_none a.weighed a.against a.favour a.rank c.if-not-weighed.false c.if-rank-lt-MULTIPLIED_OUT.false)

pub bound_of_spec : {M : Type 1} → statement M
bound_of_spec = tie.close (tie.spec returns add-t6 mul-t7 returns-2 returns-3)
