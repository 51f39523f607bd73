-- The rank alone.
use Rattle.checks.proofs.ranks.tip_rank.Statement.{statement}
use Rattle.checks.proofs.ranks.tip_rank.Tie as tie

tip-requires : tie.Need-tip-requires
tip-requires c κs = c.requires

returns : tie.Need-returns
returns c = c.tip.ensures.ranks

pub tip_rank_spec : {M : Type 1} → statement M
tip_rank_spec = tie.close (tie.spec tip-requires returns)
