-- Document 01, refusals of a book: "the first bad row" is the first with which no job book begins. The rows that one may begin with are
-- those of whole jobs and of one job more, which may lack load rows.
use Rattle.std.specs.Prelude.{◌≤◌, ◌≡◌, List, length}
use Rattle.csv_text.specs.rfc4180.Rfc4180.{Cell}
use Rattle.rows.specs.Form.{BookRow}
use Rattle.book.specs.JobBook.{WrittenJob, loads, GoodJob, Jobs, none, ◌and◌, count, rows_of, Whole, Different, Forms}

-- whole jobs, and one good job more
pub data Shaped : Jobs → Type 0 where
  no_job : Shaped none
  one_more : {js : Jobs} {j : WrittenJob} → Whole js → GoodJob j → Shaped (js and j)

-- no load row is missing in the last of them
abbrev pub Loaded : Jobs → Type 0
Loaded none = Unit {0}
Loaded (js and j) = 1 ≤ length (loads j)

-- each row in its place: these rows are those of these jobs
pub record Placed (rs : List BookRow) (js : Jobs) : Type 0 where
  pub are : rs ≡ rows_of js
  pub shaped : Shaped js

-- rows that a job book may begin with
pub record Begins (css : List (List Cell)) (rs : List BookRow) (js : Jobs) : Type 0 where
  pub forms : Forms css rs
  pub placed : Placed rs js
  pub few : count js ≤ 64
  pub different : Different js
