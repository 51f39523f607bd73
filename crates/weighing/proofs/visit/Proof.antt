-- What `admits` decides is which of the two cases of `Visits` came about; a set that it admits has a row, as `weigh` asks.
use borrow.Author.Rules.{rules}
use mathlib.Core.Path.{refl, subst}
use mathlib.Core.Logic.{inl, inr}
use Rattle.arithmetic.specs.decides.Decides.{Decides}
use Rattle.arithmetic.proofs.Deciding.{decided, refuted}
use Rattle.sets.specs.steps.Deciding.{Admits}
use Rattle.sums.specs.steps.Carried.{wind_count, earthquake_count, carried_set}
use Rattle.weighing.proofs.visit.Statement.{statement}
use Rattle.weighing.proofs.visit.Tie as tie

winds-in-requires : tie.Need-winds_in-winds-requires
winds-in-requires c κs = search rules

earthquakes-in-requires : tie.Need-earthquakes_in-earthquakes-requires
earthquakes-in-requires c κs = search rules

set-in-requires : tie.Need-set_in-set-requires
set-in-requires c κs = search rules

admits-requires : tie.Need-admits-requires
admits-requires c κs = search rules

module _ (c : tie.After-admits) where
  -- what is decided is asked of the carried sums
  admitted : let a = c.args in Decides c.admits.result (Admits a.combination (wind_count a.carried) (earthquake_count a.carried) (carried_set a.carried))
  admitted =
      let k = c.args.combination in
      let w = c.winds_in-winds.ensures in
      let e = c.earthquakes_in-earthquakes.ensures in
      let s = c.set_in-set.ensures in
      subst (λ (A : Type 0). Decides c.admits.result A) (λ i. Admits k (w i) (e i) (s i)) c.admits.ensures

returns : tie.Need-returns-then-not-admits
returns c =
    let r = c.admits.result in
    record { came = inr (refuted r c.if-not-admits.true (admitted c.before), refl); low = c.requires.1.1 }

weigh-requires : tie.Need-weigh-requires
weigh-requires c κs =
    let r = c.admits.result in
    (c.requires.0, (c.requires.1.0, ((decided r c.if-not-admits.false (admitted c.before)).some, c.requires.1.1)))

returns-2 : tie.Need-returns
returns-2 c =
    let r = c.admits.result in
    record { came = inl (decided r c.if-not-admits.false (admitted c.before.before), c.weigh.ensures); low = c.weigh.ensures.low }

pub visit_spec : {M : Type 1} → statement M
visit_spec = tie.close (tie.spec winds-in-requires earthquakes-in-requires set-in-requires admits-requires returns weigh-requires returns-2)
