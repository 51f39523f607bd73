-- What the demands say of bytes: that a call wrote them for a job, and what lines of a key they are.
use Rattle.std.specs.Prelude.{ℕ, ◌≡◌, List, ◌++◌, take}
use Rattle.rows.specs.declared.keys.Key.{Key}
use Rattle.jobs.specs.declared.Job.{Job}
use Rattle.book.specs.JobBook.{Jobs, JobBook}
use Rattle.book.specs.Values.{values}
use Rattle.csv_text.specs.Nth.{Nth}
use Rattle.debtarush.specs.CallTold.{written}
use Rattle.debtarush.specs.Called.{Called}
use Rattle.earth.specs.coefficients.Coefficients.{Coefficient}
use Rattle.fills.specs.Says.{FillFor}
use Rattle.lines.specs.Lines.{PrintedLine}
use Rattle.printing.specs.Keys.{IsKey}
use Rattle.printing.specs.Text.{texts}

-- a call wrote these bytes for this job of a book, with fill books that hold this for its member: they are the first so many of the buffer
pub record CallWrote (fill : ℕ → ℕ → Coefficient) (job : Job) (bytes : List ℕ) : Type 0 where
  pub book : List ℕ
  pub jobs : Jobs
  pub is_book : JobBook book jobs
  pub place : ℕ
  pub at : Nth (values jobs) place job
  pub own : List ℕ
  pub common : List ℕ
  pub fills : FillFor own common job.key.member fill
  pub before : List ℕ
  pub after : List ℕ
  pub len : ℕ
  pub call : Called own common book place before after (written len)
  pub wrote : bytes ≡ take len after

-- the bytes begin with these
pub record StartsWith (front bytes : List ℕ) : Type 0 where
  pub rest : List ℕ
  pub are : bytes ≡ front ++ rest

-- the bytes are these lines of this key
pub record Tells (bytes : List ℕ) (key : Key) (lines : List PrintedLine) : Type 0 where
  pub is_key : IsKey key
  pub are : bytes ≡ texts key lines
