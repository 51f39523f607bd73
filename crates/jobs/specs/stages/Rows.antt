-- Document 01, refusals of a job: 11, a number out of range, in the B, S and C rows that there are.
use Rattle.kinds.specs.ranges.Range.{Ranged}
use Rattle.kinds.specs.declared.Kind.TheVariants.{B, S, C}
use Rattle.jobs.specs.declared.Job.{Job}
use Rattle.jobs.specs.declared.stages.Stage.{Stage}
use Rattle.jobs.specs.declared.stages.Stage.TheVariants.{Unbegun, Dry, Scoured, Crossed}

-- a job with an S row, and one with a C row
abbrev pub HasScour : Stage → Type 0
HasScour Unbegun = ⊥
HasScour Dry = ⊥
HasScour Scoured = Unit {0}
HasScour Crossed = Unit {0}

abbrev pub HasClearance : Stage → Type 0
HasClearance Unbegun = ⊥
HasClearance Dry = ⊥
HasClearance Scoured = ⊥
HasClearance Crossed = Unit {0}

-- the numbers of the B, S and C rows that there are
pub record RowsRanged (job : Job) : Type 0 where
  pub base : Ranged B job.base
  pub scour : HasScour job.stage → Ranged S job.scour
  pub clearance : HasClearance job.stage → Ranged C job.clearance
