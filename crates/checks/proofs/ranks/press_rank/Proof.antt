-- The rank alone.
use Rattle.checks.proofs.ranks.press_rank.Statement.{statement}
use Rattle.checks.proofs.ranks.press_rank.Tie as tie

press-requires : tie.Need-press-requires
press-requires c κs = c.requires

returns : tie.Need-returns
returns c = c.press.ensures.ranks

pub press_rank_spec : {M : Type 1} → statement M
press_rank_spec = tie.close (tie.spec press-requires returns)
