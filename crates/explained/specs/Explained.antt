-- Where a refusal lies: "The number and row are those that `job_lines` tells: a theorem." And there is one such place.
use Rattle.std.specs.Prelude.{ℕ, ◌+◌, ◌≡◌, List, ◌++◌, length, drop, Option, None}
use Rattle.csv_text.specs.Nth.{Nth}
use Rattle.jobs.specs.declared.Job.{Job}
use Rattle.kinds.specs.declared.Row.{Row}
use Rattle.earth.specs.coefficients.Coefficients.{Coefficient}
use Rattle.book.specs.JobBook.{WrittenJob, Jobs, JobBook}
use Rattle.book.specs.Values.{job_value, values}
use Rattle.book.specs.faults.Faults.{BookLies}
use Rattle.book.specs.faults.Told.{fault_number, fault_row}
use Rattle.book.specs.declared.faults.BookFault.{BookFault}
use Rattle.fills.specs.Says.{FillFor}
use Rattle.fills.specs.faults.Faults.{FillLies}
use Rattle.fills.specs.declared.fill_rows.Whose.TheVariants.{Own, Common}
use Rattle.fills.specs.declared.faults.FillFault.{FillFault}
use Rattle.lines.specs.declared.Verdict.TheVariants.{Refused}
use Rattle.lines.specs.Lines.{verdict_line}
use Rattle.printing.specs.Text.{line_text}
use Rattle.job_faults.specs.First.{StandsAt}
use Rattle.job_faults.specs.JobRows.{rows_in}
use Rattle.job_faults.specs.Faults.{JobLies, number_of}
use Rattle.job_faults.specs.declared.JobFault.{JobFault}
use Rattle.job_faults.specs.declared.JobFault.TheVariants as job_fault
use Rattle.debtarush.specs.CallTold.{CallTold, written, refused}
use Rattle.debtarush.specs.Called.{Called}
use Rattle.explained.specs.Written.{JobAt, RowInBook}

-- what a call for the lines of a job is told, by where the refusal lies
pub record CallExplained (own common b : List ℕ) (place : ℕ) (before after : List ℕ) (t : CallTold) : Type 0 where
  -- 1 to 6: the number and the row of the book's fault
  pub book : (f : Option BookFault) → BookLies b f → (f ≡ None → ⊥) → t ≡ refused (fault_number f) (fault_row f)
  -- 8: one of the fill books has a fault
  pub fills : (js : Jobs) (f g : Option FillFault) → JobBook b js → FillLies Own own f → FillLies Common common g → (f ≡ None → g ≡ None → ⊥) → t ≡ refused 8 0
  -- 11 to 20: the one line of the job has the number of its fault
  pub job : (len : ℕ) (js : Jobs) (job : Job) (fill : ℕ → ℕ → Coefficient) (f : JobFault) → t ≡ written len → JobBook b js → Nth (values js) place job
      → FillFor own common job.key.member fill → JobLies fill job f → (f ≡ job_fault.Sound → ⊥)
      → (len ≡ length (line_text job.key (verdict_line (Refused (number_of f))))) × (after ≡ line_text job.key (verdict_line (Refused (number_of f))) ++ drop len before)

pub record Explained : Type 0 where
  pub call : {own common b : List ℕ} {place : ℕ} {before after : List ℕ} {t : CallTold} → Called own common b place before after t → CallExplained own common b place before after t
  -- the row of a job with i rows of it before it is, in a book in which the job's B row is row n, row n + i
  pub row : {s : List ℕ} {js : Jobs} (b : JobBook s js) {j : WrittenJob} {n : ℕ} → JobAt j n js → (i : ℕ) (row : Row) → StandsAt (rows_in (job_value j)) i row → RowInBook b.typed (n + i) row
  -- one place, of a book, of a fill book and of a job
  pub one_book : {s : List ℕ} {f g : Option BookFault} → BookLies s f → BookLies s g → f ≡ g
  pub one_own : {s : List ℕ} {f g : Option FillFault} → FillLies Own s f → FillLies Own s g → f ≡ g
  pub one_common : {s : List ℕ} {f g : Option FillFault} → FillLies Common s f → FillLies Common s g → f ≡ g
  pub one_job : (fill : ℕ → ℕ → Coefficient) (job : Job) (f g : JobFault) → JobLies fill job f → JobLies fill job g → f ≡ g
