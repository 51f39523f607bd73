-- OP and OM by their two cases: "none" where nothing overturns, and else rounded down.
use borrow.Author.Rules.{rules}
use Rattle.checks.proofs.ranks.Ranks.{tip_none_told, tip_told}
use Rattle.checks.proofs.ranks.tip.Statement.{statement}
use Rattle.checks.proofs.ranks.tip.Tie as tie

returns : tie.Need-returns-then-overturning-eq0
returns c = tip_none_told _ _ c.if-overturning-eq0.true

mul-down : tie.Need-overflow_mul-resisting
mul-down c = search rules

down-requires : tie.Need-down-requires
down-requires c κs = search rules

returns-2 : tie.Need-returns
returns-2 c = tip_told _ _ c.requires c.if-overturning-eq0.false c.down.ensures

pub tip_spec : {M : Type 1} → statement M
tip_spec = tie.close (tie.spec returns mul-down down-requires returns-2)
