-- No row shows a refusal before the one that is asked: these are so many, and the first has the number 11.
use Rattle.std.proofs.Common.{◌+◌, ◌<◌}
use Rattle.earth.specs.coefficients.Lent.{fill_of}
use Rattle.job_faults.specs.declared.rules.Rule.{Rule}
use Rattle.job_faults.specs.rules.Shows.{rule_number}
use Rattle.job_faults.specs.steps.Found.{Unshown}
use Rattle.job_faults.proofs.job_fault.Given as goal

abbrev pub invariant-loop-rule : goal.invariant-loop-rule
invariant-loop-rule l = (r : Rule) → rule_number r < 11 + l.rule-index → Unshown (fill_of l.held) l.job r
