-- Refusal 11 of the B row comes first, and `both` orders the rest. Where it leaves the river's lines the loads are given, and their bounds and
-- their trains are what `whole` asks.
use Rattle.std.proofs.Common.{sym, subst}
use Rattle.arithmetic.proofs.Deciding.{decided, refuted}
use Rattle.earth.specs.coefficients.Lent.{fill_of}
use Rattle.earth.proofs.coefficients.Held.{fill_low}
use Rattle.loads.specs.Answer.{LoadsAnswered}
use Rattle.loads.proofs.Answering.{given_bounded, given_led}
use Rattle.answer.specs.river.steps.Says.{RiverSays}
use Rattle.answer.specs.Answer.{refused, answered}
use Rattle.answer.proofs.Ordering.{refuses_11, both_given, both_refuses, given_answer}
use Rattle.answer.proofs.answer_of.Goals as goal

pub returns-then-not-is_ranged : goal.returns-then-not-is_ranged
returns-then-not-is_ranged c = refused (refuses_11 _ _ (λ a. refuted c.is_ranged.result c.if-not-is_ranged.true c.is_ranged.ensures a.rows.base)) c.refused_answer.ensures

-- where both give something, the loads are given
pub whole-requires-clause-bounded : goal.whole-requires-clause-bounded
whole-requires-clause-bounded c =
    let job = c.args.job in
    let given = both_given c.loads_of-taken.result c.river_of-river.result (sym c.in-Ok.ensures) in
    given_bounded (fill_of c.args.held) (fill_low _) job.loads job.count c.in-Ok.loads (subst (LoadsAnswered (fill_of c.args.held) job.loads job.count) given.0 c.loads_of-taken.ensures)

pub whole-requires-clause-led : goal.whole-requires-clause-led
whole-requires-clause-led c =
    let job = c.args.job in
    let given = both_given c.loads_of-taken.result c.river_of-river.result (sym c.in-Ok.ensures) in
    given_led (fill_of c.args.held) job.loads job.count c.in-Ok.loads (subst (LoadsAnswered (fill_of c.args.held) job.loads job.count) given.0 c.loads_of-taken.ensures)

pub returns-in-Err : goal.returns-in-Err
returns-in-Err c =
    refused
    (both_refuses (fill_of c.args.held) c.args.job (decided c.is_ranged.result c.if-not-is_ranged.false c.is_ranged.ensures) c.loads_of-taken.result c.river_of-river.result
    c.loads_of-taken.ensures c.river_of-river.ensures (sym c.in-Err.ensures))
    c.refused_answer-in-Err.ensures

pub returns-in-Ok : goal.returns-in-Ok
returns-in-Ok c =
    let job = c.args.job in
    let given = both_given c.loads_of-taken.result c.river_of-river.result (sym c.in-Ok.ensures) in
    answered
    (given_answer (fill_of c.args.held) job (decided c.is_ranged.result c.if-not-is_ranged.false c.is_ranged.ensures) c.in-Ok.loads
    (subst (LoadsAnswered (fill_of c.args.held) job.loads job.count) given.0 c.loads_of-taken.ensures) (subst (RiverSays job) given.1 c.river_of-river.ensures) c.base_at-base.ensures
    c.whole.ensures)
