-- The rules go by the role of the row's kind, and by whether the keys are the same.
use Rattle.std.proofs.Common.{◌≡◌, Bool, true, false, subst, refl}
use Rattle.arithmetic.specs.decides.Decides.{Decides}
use Rattle.arithmetic.proofs.Deciding.{decided}
use Rattle.kinds.specs.declared.Role.{Role}
use Rattle.jobs.specs.misplaced.Placing.{Holds, PlacingSays}
use Rattle.jobs.proofs.misplaced.Ruling.{holds_map, placing_map}
use Rattle.jobs.proofs.misplaced.rule_of.Goals as goal

told : {P : Type 0} (b : Bool) → Decides b P → P → b ≡ true
told true d p = refl
told false d p = absurd (d p)

pub returns : goal.returns
returns c =
    let keys = c.same_key-same in
    let own = c.role_of-role.result in
    let job = c.args.job in
    let row = c.args.row in
    subst (λ (x : Role). PlacingSays (Holds x job.stage job.count (job.key ≡ row.key)) c.first_rule.result) c.role_of-role.ensures
    (placing_map (Holds own job.stage job.count (keys.result ≡ true)) (Holds own job.stage job.count (job.key ≡ row.key)) c.first_rule.result
    (holds_map own job.stage job.count (keys.result ≡ true) (job.key ≡ row.key) (told keys.result keys.ensures))
    (holds_map own job.stage job.count (job.key ≡ row.key) (keys.result ≡ true) (λ e. decided keys.result e keys.ensures)) c.first_rule.ensures)
