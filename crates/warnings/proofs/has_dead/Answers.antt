use Rattle.std.proofs.Common.{◌≡◌, rules, tests}
use Rattle.std.proofs.lemmas.Iterator.{cases_from_any, YieldsList-from_slice}
use Rattle.kinds.specs.declared.Row.{Row}
use Rattle.kinds.specs.declared.Kind.TheVariants.{DL}
use Rattle.warnings.proofs.Among.{among_decides}
use Rattle.warnings.proofs.has_dead.Goals as goal

pub returns : goal.returns
returns c =
    let rows = c.args.rows.now in
    among_decides (λ row. row.kind ≡ DL) rows c.any.result
    (cases_from_any _ _ _ (λ (row : Row). row.kind ≡ DL) (λ row. row.kind ≡ DL → ⊥) c.any.ensures.ran (YieldsList-from_slice rows cc) (λ row q k. search (rules, tests))
    (λ row q k. search (rules, tests)))
