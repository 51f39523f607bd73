-- Document 01, Refusals of a book: what `read_book` and `count_jobs` answer, in the paper's numbers and values.
use Rattle.std.specs.Prelude.{ℕ, ◌≡◌, Result, Ok, Err, List, take}
use Rattle.jobs.specs.declared.Job.{Job}
use Rattle.rows.specs.refusals.Numbers.{refusal_number}
use Rattle.book.specs.counted.Places.{places}
use Rattle.book.specs.declared.counted.Refused.{Refused}
use Rattle.book.specs.declared.counted.Book.{Book}
use Rattle.book.specs.Says.{BookTold, BookSays, refused, given}

-- an answer in the paper's numbers and values
abbrev pub count_told : Result ℕ Refused → List Job → BookTold
count_told (Ok n) js = given n (take n js)
count_told (Err r) js = refused (refusal_number r.why) r.row

abbrev pub book_told : Result Book Refused → BookTold
book_told (Ok b) = given b.count (take b.count b.jobs)
book_told (Err r) = refused (refusal_number r.why) r.row

-- the jobs that are given stand in the first of the 64 places
abbrev pub HeldIn : Result Book Refused → Type 0
HeldIn (Ok b) = b.jobs ≡ places (take b.count b.jobs)
HeldIn (Err r) = Unit {0}

-- the answer with the jobs by value, in 64 places
pub record BookIs (s : List ℕ) (b : Result Book Refused) : Type 0 where
  pub says : BookSays s (book_told b)
  pub held : HeldIn b

-- the answer with the number of jobs alone
pub record CountIs (s : List ℕ) (c : Result ℕ Refused) : Type 0 where
  pub jobs : List Job
  pub says : BookSays s (count_told c jobs)
