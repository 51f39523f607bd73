-- The jobs of a book in as many places as a book may have.
use Rattle.std.specs.Prelude.{◌-◌, List, ◌++◌, length, replicate}
use Rattle.jobs.specs.Blank.{no_job}
use Rattle.jobs.specs.declared.Job.{Job}

-- in 64 places, the unused ones blank
abbrev pub in_places : {A : Type 0} → A → List A → List A
in_places blank l = l ++ replicate (64 - length l) blank

abbrev pub places : List Job → List Job
places js = in_places no_job js
