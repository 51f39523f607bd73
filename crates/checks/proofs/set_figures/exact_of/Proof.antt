-- A set shows one figure, so what is told of the figure whose rank was found is told of it.
use borrow.Author.Rules.{rules}
use mathlib.Core.Path.{subst, subst⁻¹}
use Rattle.arithmetic.specs.decides.Decides.{Decides}
use Rattle.sums.specs.declared.Sums.{Sums}
use Rattle.sums.specs.steps.Sums.{Room}
use Rattle.sums.proofs.Adding.{room_all}
use Rattle.checks.specs.declared.Figure.{Figure}
use Rattle.checks.specs.Order.{side}
use Rattle.checks.specs.set_figures.Figures.{ShowsExactly}
use Rattle.checks.specs.steps.BySums.{ShowsBySums, ExactBySums}
use Rattle.checks.specs.steps.Ranks.{RanksTold}
use Rattle.checks.proofs.set_figures.Showing.{by_sums_shows, exact_by_sums, shows_one}
use Rattle.checks.proofs.set_figures.exact_of.Statement.{statement}
use Rattle.checks.proofs.set_figures.exact_of.Tie as tie

sums-of-requires : tie.Need-sums_of-sums-requires
sums-of-requires c κs = search rules

ranked-of-requires : tie.Need-ranked_of-ranked-requires
ranked-of-requires c κs =
    (c.requires.0, subst⁻¹ (Room 16) c.sums_of-sums.ensures (room_all _ _ _ c.requires.0.width c.requires.1))

returns : tie.Need-returns
returns c =
    let e = c.args in
    let exact = c.ranked_of-ranked.result.exact in
    let ranked = subst (λ (s : Sums). RanksTold (side e.check) (ShowsBySums e.check e.base s) (ExactBySums e.check e.base s) c.ranked_of-ranked.result.value exact) c.sums_of-sums.ensures c.ranked_of-ranked.ensures in
    λ v shows.
    let same = shows_one e.check e.base e.loads e.set _ v (by_sums_shows e.base e.loads e.set e.check _ ranked.ranks.holds) shows in
    subst (λ (w : Figure). Decides exact (ShowsExactly e.check e.base e.loads e.set w)) same
    (subst (λ (A : Type 0). Decides exact A) (exact_by_sums e.base e.loads e.set e.check _) ranked.told)

pub exact_of_spec : {M : Type 1} → statement M
exact_of_spec = tie.close (tie.spec sums-of-requires ranked-of-requires returns)
