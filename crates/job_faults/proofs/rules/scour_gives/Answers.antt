-- A row in range gives the refusal that it is told, and no other.
use Rattle.std.proofs.Common.{ap, subst}
use Rattle.arithmetic.proofs.Deciding.{decided}
use Rattle.scour.specs.Scour.{refused}
use Rattle.scour.specs.ScourRow.{ScourSays}
use Rattle.job_faults.proofs.rules.Telling.{scour_out, gives_told, gives_none}
use Rattle.job_faults.proofs.rules.scour_gives.Goals as goal

pub returns-in-Ok : goal.returns-in-Ok
returns-in-Ok c = gives_none c.args.stage c.args.row c.args.number _ _ c.in-Ok.ensures

pub returns-in-Err : goal.returns-in-Err
returns-in-Err c =
    let has = decided c.has_scour.result c.if-not-has_scour.false c.has_scour.ensures in
    let number = c.from-in-Err.result in
    let told : ScourSays c.args.row (refused number) = rw c.from-in-Err.ensures (subst (ScourSays c.args.row) c.from.ensures c.in-Err.ensures) in
    gives_told c.args.stage c.args.row c.args.number number (λ e. scour_out told (ap refused e) (c.requires has)) has told
