-- The check tells the side of the order. On the lowest the top rank is "none", and any other is a number below it, its own rank. On the highest
-- rank 0 is "off", and any other is what a number below the top leaves of it: the two subtractions undo each other.
use borrow.Author.Rules.{rules}
use native.Mathlib.Omega.{arith}
use mathlib.Core.Path.{refl, sym}
use Rattle.checks.specs.steps.Ranks.{HasRank, rank}
use Rattle.checks.proofs.Sides.{low_side, high_side}
use Rattle.checks.proofs.figure_at.Statement.{statement}
use Rattle.checks.proofs.figure_at.Tie as tie

sub-t8 : tie.Need-overflow_sub-result
sub-t8 c = search rules

returns : tie.Need-returns-then-r-eq-TOP
unfolding HasRank rank
returns c = rw (low_side c.args.check c.in-OP.in-OP-own.keys1) (tt, sym c.if-r-eq-TOP.true)

returns-2 : tie.Need-returns-else-r-eq-TOP
unfolding HasRank rank
returns-2 c = rw (low_side c.args.check c.in-OP.in-OP-own.keys1) (omega (arith, c.if-r-eq-TOP.false), refl)

returns-3 : tie.Need-returns-then-r-eq0
unfolding HasRank rank
returns-3 c = rw (high_side c.args.check c.in-PR.in-PR-own.keys2) (tt, sym c.if-r-eq0.true)

returns-4 : tie.Need-returns-else-r-eq0
unfolding HasRank rank
returns-4 c = rw (high_side c.args.check c.in-PR.in-PR-own.keys2) (omega (arith, c.if-r-eq0.false), omega arith)

pub figure_at_spec : {M : Type 1} → statement M
figure_at_spec = tie.close (tie.spec sub-t8 returns returns-2 returns-3 returns-4)
