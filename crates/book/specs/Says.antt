-- Document 01, refusals of a book: the first bad row, and what the bytes say.
use Rattle.std.specs.Prelude.{ℕ, ◌+◌, ◌≤◌, ◌<◌, ◌≡◌, List, [], ◌∷◌, ◌++◌, length}
use Rattle.csv_text.specs.Nth.{Nth}
use Rattle.csv_text.specs.rfc4180.Rfc4180.{Cell, File, Readable}
use Rattle.rows.specs.Form.{BookRow, Form}
use Rattle.jobs.specs.declared.Job.{Job}
use Rattle.book.specs.JobBook.{Jobs, count, Different, JobBook}
use Rattle.book.specs.Beginning.{Loaded, Placed, Begins}
use Rattle.book.specs.Values.{values}

-- what a book is told: so many jobs, and these; or a refusal's number, and its row
pub data BookTold : Type 0 where
  given : ℕ → List Job → BookTold
  refused : ℕ → ℕ → BookTold

-- how the row behind rows that a job book may begin with is bad, and the number for it
pub data Bad (rs : List BookRow) (cs : List Cell) : ℕ → Type 0 where
  -- not ten fields, or a field of wrong form or unknown kind
  formless : ((r : BookRow) → Form cs r → ⊥) → Bad rs cs 3
  -- a row out of place: wherever the jobs are cut there is no place for it
  misplaced : {r : BookRow} → Form cs r → ((js : Jobs) → Placed (rs ++ r ∷ []) js → ⊥) → Bad rs cs 4
  -- a 65th job
  surplus : {r : BookRow} {js : Jobs} → Form cs r → Placed (rs ++ r ∷ []) js → 64 < count js → Bad rs cs 5
  -- a key used before
  reused : {r : BookRow} {js : Jobs} → Form cs r → Placed (rs ++ r ∷ []) js → count js ≤ 64 → (Different js → ⊥) → Bad rs cs 6

-- row n is the first bad one: a job book may begin with the rows before it, and not with it too
pub record FirstBad (why : ℕ) (rows : List (List Cell)) (n : ℕ) : Type 0 where
  pub row : List Cell
  pub at : Nth rows n row
  pub typed : List BookRow
  pub jobs : Jobs
  pub begins : Begins at.before typed jobs
  pub bad : Bad typed row why

-- all rows begin a job book, and the last job lacks a load row
pub record Unfinished (rows : List (List Cell)) : Type 0 where
  pub typed : List BookRow
  pub jobs : Jobs
  pub begins : Begins rows typed jobs
  pub missing : Loaded jobs → ⊥

-- what the bytes say: 1, then 2, then the first bad row, a load row missing at the end counting as one past the last row
pub data BookSays (s : List ℕ) (t : BookTold) : Type 0 where
  too_long : 65536 < length s → t ≡ refused 1 0 → BookSays s t
  not_csv : length s ≤ 65536 → (Readable s → ⊥) → t ≡ refused 2 0 → BookSays s t
  bad_row : {rows : List (List Cell)} {why n : ℕ} → length s ≤ 65536 → File s rows → FirstBad why rows n → t ≡ refused why n → BookSays s t
  unfinished : {rows : List (List Cell)} → length s ≤ 65536 → File s rows → Unfinished rows → t ≡ refused 4 (length rows + 1) → BookSays s t
  book : {js : Jobs} → JobBook s js → t ≡ given (count js) (values js) → BookSays s t
