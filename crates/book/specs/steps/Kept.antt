-- What `walk_rows` keeps of the jobs so far, beside their values: the last of them, and their keys.
use Rattle.std.specs.Prelude.{List, [], ◌∷◌, ◌++◌}
use Rattle.rows.specs.keys.Keyed.{no_row}
use Rattle.rows.specs.declared.keys.Key.{Key}
use Rattle.jobs.specs.Blank.{no_job}
use Rattle.jobs.specs.declared.Job.{Job}
use Rattle.book.specs.counted.Places.{in_places}
use Rattle.book.specs.JobBook.{base, Jobs, none, ◌and◌}
use Rattle.book.specs.Values.{job_value}

-- the last of the jobs, as a value; before the first there is none
abbrev pub last_value : Jobs → Job
last_value none = no_job
last_value (js and j) = job_value j

-- the keys of the jobs, in 64 places
abbrev pub keys_of : Jobs → List Key
keys_of none = []
keys_of (js and j) = keys_of js ++ (base j).keyed.key ∷ []

abbrev pub key_places : List Key → List Key
key_places ks = in_places no_row.key ks
