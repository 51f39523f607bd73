-- What `ahead_of` answers: how many rows of a job stand before its load rows.
use Rattle.std.specs.Prelude.{ℕ}
use Rattle.jobs.specs.declared.stages.Stage.{Stage}
use Rattle.jobs.specs.declared.stages.Stage.TheVariants.{Unbegun, Dry, Scoured, Crossed}

abbrev pub ahead : Stage → ℕ
ahead Unbegun = 1
ahead Dry = 1
ahead Scoured = 2
ahead Crossed = 3
