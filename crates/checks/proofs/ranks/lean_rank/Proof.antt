-- The rank alone.
use Rattle.checks.proofs.ranks.lean_rank.Statement.{statement}
use Rattle.checks.proofs.ranks.lean_rank.Tie as tie

lean-requires : tie.Need-lean-requires
lean-requires c κs = c.requires

returns : tie.Need-returns
returns c = c.lean.ensures.ranks

pub lean_rank_spec : {M : Type 1} → statement M
lean_rank_spec = tie.close (tie.spec lean-requires returns)
