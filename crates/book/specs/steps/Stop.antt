-- What `walk_rows` answers: where the walk stopped, and why (document 01, Refusals of a book).
use Rattle.std.specs.Prelude.{ℕ, ◌+◌, ◌≤◌, ◌<◌, ◌≡◌, Ok, Err, List, ◌∷◌, ◌++◌, length, drop}
use Rattle.csv_text.specs.rfc4180.Rfc4180.{Cell, File}
use Rattle.kinds.specs.declared.Role.TheVariants.{Base}
use Rattle.rows.specs.Form.{BookRow, Form}
use Rattle.rows.specs.declared.refusals.Refusal.TheVariants.{NoForm, Misplaced, TooManyJobs, UsedKey}
use Rattle.jobs.specs.Place.{InPlace}
use Rattle.book.specs.JobBook.{IsA, Jobs, count, Used}
use Rattle.book.specs.Beginning.{Loaded, Begins}
use Rattle.book.specs.counted.Places.{places}
use Rattle.book.specs.Values.{values}
use Rattle.book.specs.steps.Kept.{last_value}
use Rattle.book.specs.declared.walk.Stop.{Stop}

-- the row at which it stopped, behind rows that a job book may begin with
pub record Reached (s : List ℕ) (t : Stop) : Type 0 where
  pub passed : List (List Cell)
  pub this : List Cell
  pub behind : List (List Cell)
  pub text : File s (passed ++ this ∷ behind)
  pub here : File (drop t.at s) (this ∷ behind)
  pub within : t.at ≤ length s
  pub number : t.row ≡ length passed + 1
  pub typed : List BookRow
  pub written : Jobs
  pub begins : Begins passed typed written
  pub many : t.count ≡ count written
  pub held : t.jobs ≡ places (values written)

-- behind the last row; or at the first bad one, by how it is bad
pub data StopIs (s : List ℕ) (t : Stop) : Type 0 where
  through : {rows : List (List Cell)} {typed : List BookRow} {js : Jobs}
      → t.ending ≡ Ok tt
      → File s rows
      → Begins rows typed js
      → 1 ≤ count js
      → t.row ≡ length rows
      → t.row ≤ 65537
      → t.count ≡ count js
      → t.jobs ≡ places (values js)
      → t.job ≡ last_value js
      → StopIs s t
  formless : t.ending ≡ Err NoForm → (b : Reached s t) → ((r : BookRow) → Form b.this r → ⊥) → StopIs s t
  misplaced : {r : BookRow}
      → t.ending ≡ Err Misplaced
      → (b : Reached s t)
      → Form b.this r
      → t.job ≡ last_value b.written
      → (InPlace t.job r.keyed → ⊥)
      → StopIs s t
  surplus : {r : BookRow} → t.ending ≡ Err TooManyJobs → (b : Reached s t) → Form b.this r → IsA Base r → Loaded b.written → 64 ≤ t.count → StopIs s t
  reused : {r : BookRow}
      → t.ending ≡ Err UsedKey
      → (b : Reached s t)
      → Form b.this r
      → IsA Base r
      → Loaded b.written
      → t.count < 64
      → Used r b.written
      → t.job.key ≡ r.keyed.key
      → StopIs s t
