-- The first `count` of 16 rows are those up to the less of the two numbers.
use Rattle.std.proofs.Common.{◌≡◌, ◌∙◌, take, length, min, ap, subst, rules}
use Rattle.std.proofs.lemmas.List.{take_min}
use Rattle.arithmetic.proofs.Deciding.{decides_not}
use Rattle.kinds.specs.declared.Kind.TheVariants.{DL}
use Rattle.warnings.specs.Warnings.{Among, NoDead}
use Rattle.warnings.proofs.job_warnings.Goals as goal

pub returns : goal.returns
unfolding NoDead
returns c =
    let rows = c.args.rows in
    let whole : length rows ≡ 16 = search rules in
    let least = subst (λ n. take (min c.args.count n) rows ≡ take c.args.count rows) whole (take_min c.args.count rows) in
    let first : take c.min.result rows ≡ take c.args.count rows = ap (λ n. take n rows) c.min.ensures ∙ least in
    rw (← first)
    record {
      no_dead = decides_not (Among (λ row. row.kind ≡ DL) (take c.min.result rows)) c.has_dead.result c.has_dead.ensures;
      wind = c.way_of.ensures;
      earthquake = c.way_of-2.ensures;
    }
