-- The three cases of the definition; the order of a set of 16 rows is small.
use borrow.Author.Rules.{rules}
use mathlib.Core.Path.{sym, ◌∙◌, ap}
use Prim.Native.Nat.{ℕ, ◌*◌}
use native.Mathlib.Omega.{arith}
use Rattle.weighing.proofs.ranked.Weights.{tie_order_low}
use Rattle.weighing.proofs.bounds.Bounding.{tied_free, tied_below, tied_last}
use Rattle.weighing.proofs.bounds.tied_from.Statement.{statement}
use Rattle.weighing.proofs.bounds.tied_from.Tie as tie

returns : tie.Need-returns-then-not-weighed
returns c = let a = c.args in sym (tied_free a.weighed a.worst c.if-not-weighed.true)

returns-2 : tie.Need-returns-then-worst-lt-TOP
returns-2 c =
    let a = c.args in
    sym (tied_below a.weighed a.worst c.if-not-weighed.false c.if-worst-lt-TOP.true)

tie-order-requires : tie.Need-tie_order-requires
tie-order-requires c κs = search rules

mul-result : tie.Need-overflow_mul-result
mul-result c =
    omega (arith, c.tie_order.ensures, tie_order_low c.args.worst.set c.requires)

returns-3 : tie.Need-returns
returns-3 c =
    let a = c.args in
    let on = c.if-not-weighed.false in
    ap (λ (n : ℕ). 65536 * n) c.tie_order.ensures ∙ sym (tied_last a.weighed a.worst on c.if-worst-lt-TOP.false)

pub tied_from_spec : {M : Type 1} → statement M
tied_from_spec = tie.close (tie.spec returns returns-2 tie-order-requires mul-result returns-3)
