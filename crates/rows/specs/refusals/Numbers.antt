-- Document 01, refusals of a book: their numbers.
use Rattle.std.specs.Prelude.{ℕ}
use Rattle.rows.specs.declared.refusals.Refusal.{Refusal}
use Rattle.rows.specs.declared.refusals.Refusal.TheVariants.{TooLong, NotCsv, NoForm, Misplaced, TooManyJobs, UsedKey}

abbrev pub refusal_number : Refusal → ℕ
refusal_number TooLong = 1
refusal_number NotCsv = 2
refusal_number NoForm = 3
refusal_number Misplaced = 4
refusal_number TooManyJobs = 5
refusal_number UsedKey = 6
