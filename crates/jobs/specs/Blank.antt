-- A job as a value, with no row but its first; and what stands where there is no job.
use Rattle.std.specs.Prelude.{replicate}
use Rattle.kinds.specs.Table.{blank_numbers}
use Rattle.rows.specs.keys.Keyed.{no_row}
use Rattle.rows.specs.declared.keys.Keyed.{Keyed}
use Rattle.jobs.specs.declared.Job.{Job}
use Rattle.jobs.specs.declared.stages.Stage.{Stage}
use Rattle.jobs.specs.declared.stages.Stage.TheVariants.{Unbegun}

-- a job at a stage, with a row for its base and no other rows
abbrev pub based : Stage → Keyed → Job
based s r = record {
  stage = s;
  key = r.key;
  base = r.row.numbers;
  scour = blank_numbers;
  clearance = blank_numbers;
  count = 0;
  loads = replicate 16 no_row.row;
}

-- no job yet, with no rows in it
abbrev pub no_job : Job
no_job = based Unbegun no_row
