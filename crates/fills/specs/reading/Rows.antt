-- What `read_rows` answers: the fills of a book in words, or where its refusal lies.
use Rattle.std.specs.Prelude.{ℕ, List, Some, Result, Ok, Err}
use Rattle.fills.specs.declared.fill_rows.Fill.{Fill}
use Rattle.fills.specs.declared.fill_rows.Whose.{Whose}
use Rattle.fills.specs.declared.digest.FillWords.{FillWords}
use Rattle.fills.specs.declared.faults.FillFault.{FillFault}
use Rattle.fills.specs.FillBook.{FillBook}
use Rattle.fills.specs.digest.Digest.{DigestOf}
use Rattle.fills.specs.faults.Faults.{FillLies}

-- a fill book, and its fills in words
pub record Digested (whose : Whose) (s : List ℕ) (ws : List FillWords) : Type 0 where
  pub fills : List Fill
  pub book : FillBook whose s fills
  pub digest : DigestOf fills ws

abbrev pub RowsAre : Whose → List ℕ → List FillWords → Result (Unit {0}) FillFault → Type 0
RowsAre whose s ws (Ok done) = Digested whose s ws
RowsAre whose s ws (Err fault) = FillLies whose s (Some fault)
