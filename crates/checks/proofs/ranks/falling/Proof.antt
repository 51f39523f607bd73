-- No number is above the rank of "none".
use borrow.Author.Rules.{rules}
use mathlib.Core.Path.{refl}
use Rattle.checks.proofs.ranks.falling.Statement.{statement}
use Rattle.checks.proofs.ranks.falling.Tie as tie

sub-value : tie.Need-overflow_sub-value
sub-value c = search rules

returns : tie.Need-returns
returns c = (refl, refl)

pub falling_spec : {M : Type 1} → statement M
falling_spec = tie.close (tie.spec sub-value returns)
