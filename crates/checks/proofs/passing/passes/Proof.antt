-- "None" passes any limit and "off" none, whatever the check; a number is held against the limit from the check's side.
use borrow.Author.Rules.{rules}
use mathlib.Core.Path.{subst⁻¹}
use Rattle.arithmetic.proofs.Deciding.{decides_at_most}
use Rattle.checks.proofs.Sides.{low_side, high_side}
use Rattle.checks.specs.passing.Passing.{PassesNumber, Passes}
use Rattle.checks.proofs.passing.passes.Statement.{statement}
use Rattle.checks.proofs.passing.passes.Tie as tie

enum_told : tie.Need-enum_told-1
enum_told c = search rules

enum-known-figure : tie.Need-enum_known-figure
enum-known-figure c = search rules

enum-told-2 : tie.Need-enum_told-in-Off
enum-told-2 c = search rules

returns : tie.Need-returns-in-Nothing
unfolding Passes
returns c = subst⁻¹ (Passes _ _) c.in-Nothing.is tt

returns-2 : tie.Need-returns-in-OP
unfolding Passes PassesNumber
returns-2 c =
    let e = c.args in
    rw (c.in-Number.is, low_side e.check c.in-OP.in-OP-own.keys1) (decides_at_most e.limit c.in-Number.v)

returns-3 : tie.Need-returns-in-PR
unfolding Passes PassesNumber
returns-3 c =
    let e = c.args in
    rw (c.in-Number.is, high_side e.check c.in-PR.in-PR-own.keys2) (decides_at_most c.in-Number.v e.limit)

returns-4 : tie.Need-returns-in-Off
unfolding Passes
returns-4 c = rw c.in-Off.is (λ p. p)

pub passes_spec : {M : Type 1} → statement M
passes_spec = tie.close (tie.spec enum_told enum-known-figure enum-told-2 returns returns-2 returns-3 returns-4)
