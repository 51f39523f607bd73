-- A line says Y exactly if its mark is set; a check without a line says nothing, and so not N.
use mathlib.Core.Path.{sym, subst}
use Rattle.arithmetic.specs.decides.Decides.{Decides}
use Rattle.arithmetic.proofs.Deciding.{decides_flag}
use Rattle.lines.specs.declared.Line.{Line}
use Rattle.lines.specs.verdicts.Verdict.{LineYes}
use borrow.Author.Rules.{rules}
use Rattle.lines.proofs.verdicts.line_yes.Statement.{statement}
use Rattle.lines.proofs.verdicts.line_yes.Tie as tie

enum_told : tie.Need-enum_told-1
enum_told c = search rules

enum-known-line : tie.Need-enum_known-line
enum-known-line c = search rules

returns : tie.Need-returns-in-Missing
returns c = subst (λ (l : Line). LineYes l) (sym c.in-Missing.is) tt

returns-2 : tie.Need-returns-in-Shown
returns-2 c = subst (λ (l : Line). Decides c.in-Shown.passes (LineYes l)) (sym c.in-Shown.is) (decides_flag c.in-Shown.passes)

pub line_yes_spec : {M : Type 1} → statement M
line_yes_spec = tie.close (tie.spec enum_told enum-known-line returns returns-2)
