-- The rank alone.
use Rattle.checks.proofs.ranks.slide_rank.Statement.{statement}
use Rattle.checks.proofs.ranks.slide_rank.Tie as tie

slide-requires : tie.Need-slide-requires
slide-requires c κs = c.requires

returns : tie.Need-returns
returns c = c.slide.ensures.ranks

pub slide_rank_spec : {M : Type 1} → statement M
slide_rank_spec = tie.close (tie.spec slide-requires returns)
