-- The figure is read back from its rank, and its natural sums are those of the definition.
use borrow.Author.Rules.{rules}
use mathlib.Core.Path.{◌∙◌, sym, subst⁻¹, subst₂}
use Rattle.sums.specs.declared.Sums.{Sums}
use Rattle.sums.specs.steps.Sums.{Room}
use Rattle.sums.proofs.Adding.{room_all}
use Rattle.checks.specs.declared.Figure.{Figure}
use Rattle.checks.specs.steps.BySums.{ShowsBySums}
use Rattle.checks.specs.Order.{side}
use Rattle.checks.proofs.Ranking.{rank_one}
use Rattle.checks.proofs.set_figures.Showing.{by_sums_shows}
use Rattle.checks.proofs.set_figures.figure_of.Statement.{statement}
use Rattle.checks.proofs.set_figures.figure_of.Tie as tie

sums-of-requires : tie.Need-sums_of-sums-requires
sums-of-requires c κs = search rules

ranked-of-requires : tie.Need-ranked_of-ranked-requires
ranked-of-requires c κs =
    (c.requires.0, subst⁻¹ (Room 16) c.sums_of-sums.ensures (room_all _ _ _ c.requires.0.width c.requires.1))

figure-at-requires : tie.Need-figure_at-requires
figure-at-requires c κs = search rules

returns : tie.Need-returns
returns c =
    let e = c.args in
    let ranked = c.ranked_of-ranked.ensures.ranks in
    let same = rank_one (side e.check) _ _ ranked.has_rank c.figure_at.ensures.0 (ranked.ranked ∙ sym c.figure_at.ensures.1) in
    by_sums_shows e.base e.loads e.set e.check _
    (subst₂ (λ (s : Sums) (v : Figure). ShowsBySums e.check e.base s v) c.sums_of-sums.ensures same ranked.holds)

pub figure_of_spec : {M : Type 1} → statement M
figure_of_spec = tie.close (tie.spec sums-of-requires ranked-of-requires figure-at-requires returns)
