-- Jobs that are the same by key, kinds and numbers, whatever their notes: document 01, the job book, "The note .. is never interpreted".
use Rattle.std.specs.Prelude.{◌≡◌, List, [], ◌∷◌, ◌++◌}
use Rattle.rows.specs.Form.{BookRow}
use Rattle.rows.specs.declared.keys.Keyed.{Keyed}
use Rattle.book.specs.JobBook.{WrittenJob, Jobs, none, ◌and◌, job_rows}

-- rows by their keys, kinds and numbers, without their notes
abbrev pub keyed_rows : List BookRow → List Keyed
keyed_rows [] = []
keyed_rows (r ∷ rs) = r.keyed ∷ keyed_rows rs

-- two jobs with one key, kinds and numbers
abbrev pub SameJob : WrittenJob → WrittenJob → Type 0
SameJob a b = keyed_rows (job_rows a) ≡ keyed_rows (job_rows b)

-- the jobs of a book, in its order
abbrev pub listed : Jobs → List WrittenJob
listed none = []
listed (js and j) = listed js ++ j ∷ []
