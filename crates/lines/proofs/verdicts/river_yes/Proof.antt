-- Where SC or CL is missing nothing says N; where it stands its own mark answers.
use mathlib.Core.Path.{sym, subst}
use Rattle.arithmetic.specs.decides.Decides.{Decides}
use Rattle.arithmetic.proofs.Deciding.{decides_flag}
use Rattle.lines.specs.declared.RiverLine.{RiverLine}
use Rattle.lines.specs.verdicts.Verdict.{RiverYes}
use borrow.Author.Rules.{rules}
use Rattle.lines.proofs.verdicts.river_yes.Statement.{statement}
use Rattle.lines.proofs.verdicts.river_yes.Tie as tie

enum_told : tie.Need-enum_told-1
enum_told c = search rules

enum-known-line : tie.Need-enum_known-line
enum-known-line c = search rules

returns : tie.Need-returns-in-Missing
returns c = subst (λ (l : RiverLine). RiverYes l) (sym c.in-Missing.is) tt

returns-2 : tie.Need-returns-in-Shown
returns-2 c = subst (λ (l : RiverLine). Decides c.in-Shown.passes (RiverYes l)) (sym c.in-Shown.is) (decides_flag c.in-Shown.passes)

pub river_yes_spec : {M : Type 1} → statement M
river_yes_spec = tie.close (tie.spec enum_told enum-known-line returns returns-2)
