-- The jobs of a book as values: by key, kinds and numbers, and without their notes.
use Rattle.std.specs.Prelude.{◌-◌, List, [], ◌∷◌, ◌++◌, length, replicate}
use Rattle.kinds.specs.Table.{blank_numbers}
use Rattle.kinds.specs.declared.Numbers.{Numbers}
use Rattle.kinds.specs.declared.Row.{Row}
use Rattle.rows.specs.Form.{BookRow}
use Rattle.kinds.specs.declared.Kind.TheVariants.{B}
use Rattle.jobs.specs.declared.Job.{Job}
use Rattle.jobs.specs.declared.stages.Stage.{Stage}
use Rattle.jobs.specs.declared.stages.Stage.TheVariants.{Dry, Scoured, Crossed}
use Rattle.book.specs.JobBook.{River, dry, scoured, crossed, WrittenJob, job, Jobs, none, ◌and◌}

-- which river rows a job has, and their numbers
abbrev pub stage_of : River → Stage
stage_of dry = Dry
stage_of (scoured s) = Scoured
stage_of (crossed s c) = Crossed

abbrev pub scour_of : River → Numbers
scour_of dry = blank_numbers
scour_of (scoured s) = s.keyed.row.numbers
scour_of (crossed s c) = s.keyed.row.numbers

abbrev pub clearance_of : River → Numbers
clearance_of dry = blank_numbers
clearance_of (scoured s) = blank_numbers
clearance_of (crossed s c) = c.keyed.row.numbers

abbrev pub load_rows : List BookRow → List Row
load_rows [] = []
load_rows (r ∷ rs) = r.keyed.row ∷ load_rows rs

-- a job that the book writes, as a value
abbrev pub job_value : WrittenJob → Job
job_value (job b v ls) = record {
  stage = stage_of v;
  key = b.keyed.key;
  base = b.keyed.row.numbers;
  scour = scour_of v;
  clearance = clearance_of v;
  count = length ls;
  loads = load_rows ls ++ replicate (16 - length ls) (record { kind = B; numbers = blank_numbers });
}

abbrev pub values : Jobs → List Job
values none = []
values (js and j) = values js ++ job_value j ∷ []
