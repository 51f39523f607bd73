-- Demand 4: what is printed of a book is, place by place and in book order, what the calls for its jobs write, and nothing else; of a
-- refused book, or with refused fill books, it is the one line with the refusal that every call is told. (That a text is printed, as `BookPrinted` has
-- it, is the promise of `book_lines`.)
use Rattle.std.specs.Prelude.{ℕ, ◌≤◌, ◌≡◌, ◌⊎◌, List, take, drop}
use Rattle.book.specs.JobBook.{Jobs, count, JobBook}
use Rattle.fills.specs.Says.{Accepted}
use Rattle.printing.specs.refused_book.Text.{book_text}
use Rattle.debtarush.specs.CallTold.{refused}
use Rattle.debtarush.specs.Called.{Called}
use Rattle.debtarush.specs.BookText.{BookPrinted}
use Rattle.demands.specs.Pieces.{Pieces}

pub record Demand4 : Type 0 where
  -- one state of the buffer, and one length
  pub one : {own common b before x y : List ℕ} {m n : ℕ} → BookPrinted own common b before x m → BookPrinted own common b before y n → (x ≡ y) × (m ≡ n)
  -- of a refused book, and of a book with refused fill books, its one BOOK line, with the number and the row that a call is told, whatever its place
  -- and its buffer
  pub refused_line : {own common b before after before' after' : List ℕ} {len place n row : ℕ} → BookPrinted own common b before after len
      → Called own common b place before' after' (refused n row) → (n ≤ 6) ⊎ (n ≡ 8) → take len after ≡ book_text n row
  -- else one piece for each job, in book order and nothing else, and each is what a call for its place writes
  pub pieces : {own common b before after : List ℕ} {len : ℕ} → BookPrinted own common b before after len → (js : Jobs) → JobBook b js → Accepted own common
      → Pieces own common b (count js) (take len after)
  -- and the rest of the buffer is untouched
  pub rest : {own common b before after : List ℕ} {len : ℕ} → BookPrinted own common b before after len → drop len after ≡ drop len before
