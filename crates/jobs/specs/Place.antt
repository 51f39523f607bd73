-- Document 01, the job book: "A job is a B row, at most one S, at most one C (only after S), then 1 to 16 load rows .., all with one key.
-- The next B starts the next job. .. A job is taken up row by row; a row that is refused leaves the job as it stood." The job as a value.
use Rattle.std.specs.Prelude.{◌+◌, ◌≡◌, set}
use Rattle.kinds.specs.Table.{role}
use Rattle.kinds.specs.declared.Role.{Role}
use Rattle.kinds.specs.declared.Role.TheVariants.{Base, Scour, Clearance, Load}
use Rattle.rows.specs.declared.keys.Keyed.{Keyed}
use Rattle.jobs.specs.declared.Job.{Job}
use Rattle.jobs.specs.Blank.{based}
use Rattle.jobs.specs.stages.Fits.{Fits}
use Rattle.jobs.specs.declared.stages.Stage.TheVariants.{Dry, Scoured, Crossed}

-- a row is in place behind the rows that the job has
abbrev pub InPlace : Job → Keyed → Type 0
InPlace j r = Fits (role r.row.kind) j.stage j.count (j.key ≡ r.key)

-- the job with exactly this row more; a B row is the first of the next job
abbrev pub with_row : Role → Job → Keyed → Job
with_row Base j r = based Dry r
with_row Scour j r = record {
  stage = Scoured;
  key = j.key;
  base = j.base;
  scour = r.row.numbers;
  clearance = j.clearance;
  count = j.count;
  loads = j.loads;
}
with_row Clearance j r = record {
  stage = Crossed;
  key = j.key;
  base = j.base;
  scour = j.scour;
  clearance = r.row.numbers;
  count = j.count;
  loads = j.loads;
}
with_row Load j r = record {
  stage = j.stage;
  key = j.key;
  base = j.base;
  scour = j.scour;
  clearance = j.clearance;
  count = j.count + 1;
  loads = set j.loads j.count r.row;
}

abbrev pub grown : Job → Keyed → Job
grown j r = with_row (role r.row.kind) j r
