-- Each of the five lines is missing, as the definition has them.
use mathlib.Core.Path.{refl}
use Rattle.lines.proofs.no_lines.Statement.{statement}
use Rattle.lines.proofs.no_lines.Tie as tie

returns : tie.Need-returns
returns c = refl

pub no_lines_spec : {M : Type 1} → statement M
no_lines_spec = tie.close (tie.spec returns)
