-- Where a refusal lies: a job of a book by the row on which it begins, and a row of a job in its book.
use Rattle.std.specs.Prelude.{ℕ, ◌+◌, ◌≡◌, List, length}
use Rattle.csv_text.specs.Nth.{Nth}
use Rattle.kinds.specs.declared.Row.{Row}
use Rattle.rows.specs.Form.{BookRow}
use Rattle.book.specs.JobBook.{WrittenJob, Jobs, ◌and◌, rows_of}

-- a job of a book, whose B row is row n of the book, from 1
pub data JobAt (j : WrittenJob) (n : ℕ) : Jobs → Type 0 where
  here : {js : Jobs} → n ≡ length (rows_of js) + 1 → JobAt j n (js and j)
  earlier : {js : Jobs} {k : WrittenJob} → JobAt j n js → JobAt j n (js and k)

-- row n of the book has this kind and these numbers
pub record RowInBook (typed : List BookRow) (n : ℕ) (row : Row) : Type 0 where
  pub written : BookRow
  pub at : Nth typed n written
  pub same : written.keyed.row ≡ row
