-- Document 01, The printed answer: the text of a whole book. "The printing program reads a book .. and prints its jobs in book order."
-- "A refused book prints `,,BOOK,number,row,,`", with 02's empty eighth field behind it (P7); so does a book whose fill books are refused (02, P4).
use Rattle.std.specs.Prelude.{ℕ, ◌≤◌, ◌≡◌, List, [], ◌++◌, length, drop}
use Rattle.jobs.specs.declared.Job.{Job}
use Rattle.book.specs.JobBook.{Jobs, none, ◌and◌, JobBook}
use Rattle.book.specs.Values.{job_value}
use Rattle.book.specs.Says as book
use Rattle.fills.specs.Says.{Accepted}
use Rattle.printing.specs.refused_book.Text.{book_text}
use Rattle.debtarush.specs.Lines.{JobText}

-- a text, and the lines of one job more behind it
pub record OneMore (own common : List ℕ) (Earlier : List ℕ → Type 0) (job : Job) (text : List ℕ) : Type 0 where
  pub before : List ℕ
  pub last : List ℕ
  pub earlier : Earlier before
  pub lines : JobText own common job last
  pub are : text ≡ before ++ last

-- the lines of the jobs, those of one job behind those of the job before it
unfoldable pub JobsText : (own common : List ℕ) → Jobs → List ℕ → Type 0
JobsText own common none text = text ≡ []
JobsText own common (js and j) text = OneMore own common (JobsText own common js) (job_value j) text

-- the text of a book: its jobs' lines in book order; or the one line of a refused book, or of refused fill books
pub data BookText (own common b text : List ℕ) : Type 0 where
  refused : {n row : ℕ} → book.BookSays b (book.refused n row) → text ≡ book_text n row → BookText own common b text
  no_fills : {js : Jobs} → JobBook b js → (Accepted own common → ⊥) → text ≡ book_text 8 0 → BookText own common b text
  jobs : {js : Jobs} → JobBook b js → Accepted own common → JobsText own common js text → BookText own common b text

-- that text in a buffer that held `before`, which has room for it, and holds `after` then: its `len` bytes from the start, and the rest untouched
pub record BookPrinted (own common b before after : List ℕ) (len : ℕ) : Type 0 where
  pub text : List ℕ
  pub is : BookText own common b text
  pub long : len ≡ length text
  pub fits : length text ≤ length before
  pub whole : after ≡ text ++ drop (length text) before
