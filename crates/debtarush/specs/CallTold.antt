-- Document 01, Refusals of a book, and 02, P4: what a call for one job's lines is told.
use Rattle.std.specs.Prelude.{ℕ, Result, Ok, Err}
use Rattle.rows.specs.refusals.Numbers.{refusal_number}
use Rattle.debtarush.specs.declared.CallRefusal.{CallRefusal}
use Rattle.debtarush.specs.declared.CallRefusal.TheVariants.{BookRefused, FillsRefused, NoPlace, TooShort}

-- what a call is told: so many bytes written, or a refusal's number and its row
pub data CallTold : Type 0 where
  written : ℕ → CallTold
  refused : ℕ → ℕ → CallTold

-- 1 to 6 as the book's; 8, a fill book is refused; 10, the place is 0 or past the last job; 7, the buffer lent is shorter than the lines; all three
-- with row 0
abbrev pub call_told : Result ℕ CallRefusal → CallTold
call_told (Ok n) = written n
call_told (Err (BookRefused why row)) = refused (refusal_number why) row
call_told (Err FillsRefused) = refused 8 0
call_told (Err NoPlace) = refused 10 0
call_told (Err TooShort) = refused 7 0
