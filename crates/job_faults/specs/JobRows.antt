-- Document 01, the job book: "A job is a B row, at most one S, at most one C (only after S), then 1 to 16 load rows". The rows of a job in the book's order, by their kinds
-- and numbers.
use Rattle.std.specs.Prelude.{List, [], ◌∷◌, ◌++◌}
use Rattle.kinds.specs.declared.Kind.{Kind}
use Rattle.kinds.specs.declared.Kind.TheVariants.{B, S, C}
use Rattle.kinds.specs.declared.Numbers.{Numbers}
use Rattle.kinds.specs.declared.Row.{Row}
use Rattle.jobs.specs.declared.Job.{Job}
use Rattle.jobs.specs.declared.stages.Stage.{Stage}
use Rattle.jobs.specs.declared.stages.Stage.TheVariants.{Unbegun, Dry, Scoured, Crossed}
use Rattle.answer.specs.Rules.{load_rows_of}

abbrev pub row_of : Kind → Numbers → Row
row_of k n = record { kind = k; numbers = n }

-- the S and C rows that there are
unfoldable pub river_rows : Stage → Numbers → Numbers → List Row
river_rows Unbegun scour clearance = []
river_rows Dry scour clearance = []
river_rows Scoured scour clearance = row_of S scour ∷ []
river_rows Crossed scour clearance = row_of S scour ∷ row_of C clearance ∷ []

-- the rows of a job; the B row is the first
abbrev pub rows_in : Job → List Row
rows_in job = row_of B job.base ∷ (river_rows job.stage job.scour job.clearance ++ load_rows_of job)
