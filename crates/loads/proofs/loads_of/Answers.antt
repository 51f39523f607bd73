-- The lowest number of all the rows, with 16 and 18 among them; else the loads.
use Rattle.std.proofs.Common.{◌≡◌, ◌<◌, ◌∙◌, ap, subst, ℕ, Bool, not, ltb, List, length, take, rules, sym, Option, None, Some, Ok, Err}
use Rattle.std.specs.Bool.{then_some}
use Rattle.arithmetic.specs.decides.Decides.{Decides}
use Rattle.arithmetic.proofs.Deciding.{decides_not, decides_below}
use Rattle.earth.specs.coefficients.Coefficients.{Coefficient}
use Rattle.earth.specs.coefficients.Lent.{fill_of}
use Rattle.kinds.specs.declared.Row.{Row}
use Rattle.kinds.specs.declared.refusals.JobRefusal.{JobRefusal}
use Rattle.kinds.specs.declared.refusals.JobRefusal.TheVariants.{TooManyOptional, NoTrain}
use Rattle.loads.specs.declared.Asked.{Asked}
use Rattle.loads.specs.Answer.{LoadsTold, LoadsSays, refuses, loaded, LoadsAnswered}
use Rattle.loads.specs.LoadRows.{AllNamed, optionals}
use Rattle.loads.specs.steps.Asking.{row_count, AskedIs, lowest, Lowest}
use Rattle.loads.proofs.Answering.{Shown, first_refused, none_refused, first_rows}
use Rattle.loads.proofs.Refusing.{lowest_either, lowest_where, lowest_none}
use Rattle.loads.proofs.loads_of.Goals as goal

-- what is asked of the rows that were looked at, which are the first `count` of 16
module _ (fill : ℕ → ℕ → Coefficient) (all : List Row) (n count : ℕ) (asked : Asked) (named : Bool) {crowded misled with16 first : Option JobRefusal}
    (sixteen : length all ≡ 16) (few : n ≡ row_count count) (is : AskedIs fill (take n all) asked) (decides : Decides named (AllNamed (take n all)))
    (c : crowded ≡ then_some (ltb 12 asked.optional) TooManyOptional) (m : misled ≡ then_some (not named) NoTrain)
    (l : with16 ≡ lowest asked.first crowded) (k : first ≡ lowest with16 misled) where
  -- the lowest of what they show, with 16 and 18
  told : Lowest (Shown fill (take n all)) first
  told =
      let over : Decides (ltb 12 asked.optional) (12 < optionals (take n all)) = subst (λ (o : ℕ). Decides (ltb 12 asked.optional) (12 < o)) is.optional (decides_below 12 asked.optional) in
      rw (k, l, c, m) (lowest_either (lowest_either is.first (lowest_where TooManyOptional _ over)) (lowest_where NoTrain _ (decides_not (AllNamed (take n all)) named decides)))

  says : {t : LoadsTold} → LoadsSays fill (take n all) t → LoadsSays fill (take count all) t
  says {t} = subst (λ (r : List Row). LoadsSays fill r t) (ap (λ (o : ℕ). take o all) few ∙ first_rows all count sixteen)

  refused_first : (refusal : JobRefusal) → first ≡ Some refusal → LoadsAnswered fill all count (Err refusal)
  refused_first refusal e = says (refuses (first_refused fill (take n all) refusal (subst (Lowest (Shown fill (take n all))) e told)))

  given : first ≡ None → LoadsAnswered fill all count (Ok asked.loads)
  given e =
      let none : asked.first ≡ None = lowest_none asked.first crowded (sym l ∙ lowest_none with16 misled (sym k ∙ e)) in
      says (loaded (none_refused fill (take n all) (subst (Lowest (Shown fill (take n all))) e told)) (is.loads none))

pub returns-in-Some : goal.returns-in-Some
returns-in-Some c =
    refused_first (fill_of c.args.held) c.args.rows _ c.args.count c.asked_of-asked.result c.all_named.result (search rules) c.row_count.ensures.0 c.asked_of-asked.ensures c.all_named.ensures c.then_some-crowded.ensures c.then_some-misled.ensures c.lowest.ensures c.lowest-2.ensures
    _ c.in-Some.is

pub returns-in-None : goal.returns-in-None
returns-in-None c =
    given (fill_of c.args.held) c.args.rows _ c.args.count c.asked_of-asked.result c.all_named.result (search rules) c.row_count.ensures.0 c.asked_of-asked.ensures c.all_named.ensures c.then_some-crowded.ensures c.then_some-misled.ensures c.lowest.ensures c.lowest-2.ensures c.in-None.is
