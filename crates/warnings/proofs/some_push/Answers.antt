use Rattle.std.proofs.Common.{rules, tests}
use Rattle.std.proofs.lemmas.Iterator.{cases_from_any, YieldsList-from_slice}
use Rattle.warnings.specs.Warnings.{Pushes}
use Rattle.warnings.proofs.Among.{among_decides}
use Rattle.warnings.proofs.some_push.Goals as goal

pub returns : goal.returns
returns c =
    let rows = c.args.rows.now in
    let pushes = Pushes c.args.kind c.args.backward in
    among_decides pushes rows c.any.result
    (cases_from_any _ _ _ pushes (λ row. pushes row → ⊥) c.any.ensures.ran (YieldsList-from_slice rows cc) (λ row q k. search (rules, tests))
    (λ row q k. search (rules, tests)))
