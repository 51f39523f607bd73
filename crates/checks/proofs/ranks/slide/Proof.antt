-- SL by its three cases, in the order of document 01: N at 0 first, then no H, then the division, whose products fit by the ranges of friction and N.
use borrow.Author.Rules.{rules}
use native.Mathlib.Omega.{arith}
use native.Mathlib.Nat.{mul-le-mul}
use Rattle.checks.proofs.ranks.Ranks.{slide_zero_told, slide_none_told, slide_told}
use Rattle.checks.proofs.ranks.slide.Statement.{statement}
use Rattle.checks.proofs.ranks.slide.Tie as tie

returns : tie.Need-returns-then-n-eq0
returns c = slide_zero_told _ _ _ c.if-n-eq0.true

returns-2 : tie.Need-returns-then-h-eq0
returns-2 c = slide_none_told _ _ _ c.if-n-eq0.false c.if-h-eq0.true

mul-down : tie.Need-overflow_mul-friction
mul-down c = omega (arith, mul-le-mul c.requires.0 c.requires.1)

mul-down-2 : tie.Need-overflow_mul-h
mul-down-2 c = search rules

down-requires : tie.Need-down-requires
down-requires c κs = search rules

returns-3 : tie.Need-returns
returns-3 c =
    slide_told _ _ _ c.requires.0 c.requires.1 c.if-n-eq0.false c.if-h-eq0.false c.down.ensures

pub slide_spec : {M : Type 1} → statement M
slide_spec = tie.close (tie.spec returns returns-2 mul-down mul-down-2 down-requires returns-3)
