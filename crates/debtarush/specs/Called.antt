-- Document 01, Refusals of a book and The printed answer: a call for one job's lines, named by its place in the book, from 1, with the members' own
-- fill book and the common one lent beside it (02, P4).
use Rattle.std.specs.Prelude.{ℕ, ◌≤◌, ◌<◌, ◌≡◌, ◌⊎◌, List, ◌++◌, length, drop}
use Rattle.jobs.specs.declared.Job.{Job}
use Rattle.book.specs.JobBook.{Jobs, count, JobBook}
use Rattle.book.specs.Values.{values}
use Rattle.book.specs.Says as book
use Rattle.fills.specs.Says.{Accepted}
use Rattle.debtarush.specs.Lines.{JobText}
use Rattle.csv_text.specs.Nth.{Nth}
use Rattle.debtarush.specs.CallTold.{CallTold, written, refused}

-- a call for the lines of the job at a place of a book, with a buffer that held `before` and holds `after` then.
-- Nothing is written by a call refused with 1 to 8 or 10 (01, and 02 of 8: "row 0, after 6 and before 10 and 7, and nothing is written").
-- "Otherwise exactly the lines' bytes are written from the start and the rest is untouched"
pub data Called (own common b : List ℕ) (place : ℕ) (before after : List ℕ) (t : CallTold) : Type 0 where
  no_book : {n row : ℕ} → book.BookSays b (book.refused n row) → after ≡ before → t ≡ refused n row → Called own common b place before after t
  no_fills : {js : Jobs} → JobBook b js → (Accepted own common → ⊥) → after ≡ before → t ≡ refused 8 0 → Called own common b place before after t
  no_place : {js : Jobs} → JobBook b js → Accepted own common → (place ≡ 0) ⊎ (count js < place) → after ≡ before → t ≡ refused 10 0 → Called own common b place before after t
  too_short : {js : Jobs} {job : Job} {bytes : List ℕ} → JobBook b js → Nth (values js) place job → JobText own common job bytes → length before < length bytes → after ≡ before
      → t ≡ refused 7 0 → Called own common b place before after t
  lines : {js : Jobs} {job : Job} {bytes : List ℕ} → JobBook b js → Nth (values js) place job → JobText own common job bytes → length bytes ≤ length before
      → after ≡ bytes ++ drop (length bytes) before → t ≡ written (length bytes) → Called own common b place before after t
