-- With the job's key, rules 4 to 9 are asked, and rule 3 does not hold.
use Rattle.std.proofs.Common.{◌≡◌, true}
use Rattle.jobs.specs.misplaced.Placing.{Holds}
use Rattle.jobs.proofs.misplaced.Ruling.{holds_map, placing_map}
use Rattle.jobs.proofs.misplaced.first_rule.Goals as goal

pub returns-then-same : goal.returns-then-same
returns-then-same c =
    let args = c.args in
    let same = c.if-same.true in
    placing_map (Holds args.role args.stage args.count (Unit {0})) (Holds args.role args.stage args.count (args.same ≡ true)) c.later_rule.result
    (holds_map args.role args.stage args.count (Unit {0}) (args.same ≡ true) (λ e. tt))
    (holds_map args.role args.stage args.count (args.same ≡ true) (Unit {0}) (λ u. same))
    c.later_rule.ensures
