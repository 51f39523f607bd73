-- RK by its two cases: "off" where N is 0, and else rounded up, over a divisor that is above 0 since N and the width are.
use borrow.Author.Rules.{rules}
use native.Mathlib.Omega.{arith}
use mathlib.Core.Path.{◌≡◌}
use native.Mathlib.Nat.{mul-le-mul, mul-pos}
use lib.Dec.{lit<}
use Prim.Native.Nat.{◌*◌, ◌<◌}
use Rattle.checks.proofs.ranks.Ranks.{lean_off_told, lean_told}
use Rattle.checks.proofs.ranks.lean.Statement.{statement}
use Rattle.checks.proofs.ranks.lean.Tie as tie

some : (c : tie.Start) → (c.args.n ≡ 0 → ⊥) → 0 < 2 * (c.args.n * c.args.width)
some c n = mul-pos (lit< tt) (mul-pos (omega arith) c.requires.0.0)

returns : tie.Need-returns-then-n-eq0
returns c = lean_off_told _ _ _ c.if-n-eq0.true

mul-up : tie.Need-overflow_mul-m
mul-up c = search rules

mul-up-2 : tie.Need-overflow_mul-n
mul-up-2 c = omega (arith, mul-le-mul c.requires.1.0 c.requires.0.1)

mul-up-3 : tie.Need-overflow_mul-n-2
mul-up-3 c = omega (arith, mul-le-mul c.requires.1.0 c.requires.0.1)

up-requires : tie.Need-up-requires
up-requires c κs = some c.before c.if-n-eq0.false

falling-requires : tie.Need-falling-requires
falling-requires c κs = search rules

returns-2 : tie.Need-returns
returns-2 c =
    let left = c.if-n-eq0.false in
    rw (c.falling.ensures.0, c.falling.ensures.1) (lean_told _ _ _ c.requires.1.1 (some c.before.before.before left) left c.up.ensures)

pub lean_spec : {M : Type 1} → statement M
lean_spec = tie.close (tie.spec returns mul-up mul-up-2 mul-up-3 up-requires falling-requires returns-2)
