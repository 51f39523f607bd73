-- Where a row shows the refusal that is asked, the refusal lies there, and behind the last there is none.
use Rattle.std.proofs.Common.{arith}
use Rattle.earth.specs.coefficients.Lent.{fill_of}
use Rattle.job_faults.proofs.Ordering.{before_it, number_low, past_range, lies, unrefused}
use Rattle.job_faults.proofs.job_fault.Goals as goal

pub first_row-requires : goal.first_row-requires
first_row-requires c =
    past_range (fill_of c.args.held) c.args.job _ (before_it (fill_of c.args.held) c.args.job c.loop-rule.rule-index _ c.loop-rule-test.true c.loop-rule.invariant)

pub fault_at-requires-clause-lies : goal.fault_at-requires-clause-lies
fault_at-requires-clause-lies c =
    lies (fill_of c.args.held) c.args.job _ _ _ c.in-Some.ensures (before_it (fill_of c.args.held) c.args.job c.loop-rule.rule-index _ c.loop-rule-test.true c.loop-rule.invariant)

pub fault_at-requires-clause-past_range : goal.fault_at-requires-clause-past_range
fault_at-requires-clause-past_range c =
    past_range (fill_of c.args.held) c.args.job _ (before_it (fill_of c.args.held) c.args.job c.loop-rule.rule-index _ c.loop-rule-test.true c.loop-rule.invariant)

pub returns : goal.returns
returns c = unrefused (fill_of c.args.held) c.args.job (λ r h. c.loop-rule.invariant r (omega (arith, number_low r, c.loop-rule-test.false)))
