-- A line is missing where the walk found no set. Else its figure is read back from the rank, and what the walk found says of that figure and
-- set that they are the ones to name; whether it is exact is told of that set.
use borrow.Author.Rules.{rules}
use Rattle.checks.specs.steps.HasCheck.{HasCheck}
use Rattle.worst.specs.Lines.{LineSays}
use Rattle.worst.proofs.line_at.Statement.{statement}
use Rattle.worst.proofs.line_at.Tie as tie

-- where a set was found, the combination has the check
has : (c : tie.Else-set-eq0) → let a = c.args in HasCheck a.combination a.check a.base
has c = c.requires.1.1.0 c.if-set-eq0.false

returns : tie.Need-returns-then-set-eq0
unfolding LineSays HasCheck
returns c = λ limit h t p. (c.requires.1.1.1 (limit, h)).none c.if-set-eq0.true t p

figure-at-requires : tie.Need-figure_at-figure-requires
figure-at-requires c κs = search rules

limit-of-requires : tie.Need-limit_of-limit-requires
limit-of-requires c κs = (c.requires.0.allowable, has c.before)

passes-requires : tie.Need-passes-passes-requires
passes-requires c κs = search rules

exact-of-requires : tie.Need-exact_of-exact-requires
exact-of-requires c κs = search rules

returns-2 : tie.Need-returns
unfolding LineSays
returns-2 c =
    let figure = c.figure_at-figure.ensures in
    let named = (c.requires.1.1.1 (has c.before.before.before.before)).named c.if-set-eq0.false _ figure.0 figure.1 in
    record { named = named; limited = c.limit_of-limit.ensures; marked = c.passes-passes.ensures; told = c.exact_of-exact.ensures _ named.reaches }

pub line_at_spec : {M : Type 1} → statement M
line_at_spec = tie.close (tie.spec returns figure-at-requires limit-of-requires passes-requires exact-of-requires returns-2)
