-- Where a refusal lies: "the number and row are those that `job_lines` tells". A fault's refusal by its number, and its row, as 01 has them.
use Rattle.std.specs.Prelude.{ℕ, Option, Some, None}
use Rattle.book.specs.declared.faults.BookFault.{BookFault}
use Rattle.book.specs.declared.faults.BookFault.TheVariants.{TooLong, Text, Row, Misplaced, TooManyJobs, UsedKey}

abbrev pub fault_number : Option BookFault → ℕ
fault_number None = 0
fault_number (Some TooLong) = 1
fault_number (Some (Text f)) = 2
fault_number (Some (Row n f)) = 3
fault_number (Some (Misplaced n why)) = 4
fault_number (Some (TooManyJobs n)) = 5
fault_number (Some (UsedKey n m)) = 6

-- a book refused with 1 or 2 has no row
abbrev pub fault_row : Option BookFault → ℕ
fault_row None = 0
fault_row (Some TooLong) = 0
fault_row (Some (Text f)) = 0
fault_row (Some (Row n f)) = n
fault_row (Some (Misplaced n why)) = n
fault_row (Some (TooManyJobs n)) = n
fault_row (Some (UsedKey n m)) = n
