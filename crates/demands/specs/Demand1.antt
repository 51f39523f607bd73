-- Demand 1: every string of bytes is a book, whatever two strings are lent as fill books. A call has one answer, lines or a numbered refusal in the
-- paper's order; a refused call writes nothing, and a refused job has its one line. (That each call ends, with an answer as `Called` has it, is the
-- promise of `job_lines`.)
use Rattle.std.specs.Prelude.{ℕ, ◌≤◌, ◌<◌, ◌≡◌, ◌⊎◌, List, ◌++◌, length, drop, Result}
use Rattle.jobs.specs.declared.Job.{Job}
use Rattle.book.specs.JobBook.{Jobs, count, JobBook}
use Rattle.book.specs.Values.{values}
use Rattle.book.specs.Says as book
use Rattle.earth.specs.coefficients.Coefficients.{Coefficient}
use Rattle.csv_text.specs.Nth.{Nth}
use Rattle.lines.specs.declared.Verdict.TheVariants.{Refused}
use Rattle.lines.specs.Lines.{verdict_line}
use Rattle.answer.specs.Rules.{Refuses}
use Rattle.printing.specs.Text.{line_text}
use Rattle.fills.specs.Says.{Accepted, FillFor}
use Rattle.debtarush.specs.Lines.{JobText}
use Rattle.debtarush.specs.declared.CallRefusal.{CallRefusal}
use Rattle.debtarush.specs.CallTold.{CallTold, written, refused, call_told}
use Rattle.debtarush.specs.Called.{Called}

-- what is demanded of a call, with the refusals in the paper's order
pub record CallInOrder (own common b : List ℕ) (place : ℕ) (before after : List ℕ) (t : CallTold) : Type 0 where
  -- first the book's refusal, whatever the fill books, the place and the buffer
  pub book_first : (n row : ℕ) → book.BookSays b (book.refused n row) → t ≡ refused n row
  -- then 8, whatever the place and the buffer
  pub then_fills : (js : Jobs) → JobBook b js → (Accepted own common → ⊥) → t ≡ refused 8 0
  -- then 10, whatever the buffer
  pub then_place : (js : Jobs) → JobBook b js → Accepted own common → (place ≡ 0) ⊎ (count js < place) → t ≡ refused 10 0
  -- then 7
  pub then_buffer : (js : Jobs) (job : Job) (text : List ℕ) → JobBook b js → Nth (values js) place job → JobText own common job text → length before < length text → t ≡ refused 7 0
  -- else exactly the lines' bytes from the start, and the rest untouched
  pub then_lines : (js : Jobs) (job : Job) (text : List ℕ) → JobBook b js → Nth (values js) place job → JobText own common job text → length text ≤ length before
      → (t ≡ written (length text)) × (after ≡ text ++ drop (length text) before)
  -- no other number
  pub numbers : (n row : ℕ) → t ≡ refused n row → ((1 ≤ n) × (n ≤ 8)) ⊎ (n ≡ 10)
  -- a refused call writes nothing
  pub untouched : (n row : ℕ) → t ≡ refused n row → after ≡ before
  -- a job refused with 11 to 20 has its one line and no other
  pub alone : (len n : ℕ) (js : Jobs) (job : Job) (fill : ℕ → ℕ → Coefficient) → t ≡ written len → JobBook b js → Nth (values js) place job
      → FillFor own common job.key.member fill → Refuses fill job n
      → (len ≡ length (line_text job.key (verdict_line (Refused n)))) × (after ≡ line_text job.key (verdict_line (Refused n)) ++ drop len before)

pub record Demand1 : Type 0 where
  -- one answer, and one state of the buffer
  pub one : {own common b : List ℕ} {place : ℕ} {before x y : List ℕ} {t u : CallTold} → Called own common b place before x t → Called own common b place before y u → (x ≡ y) × (t ≡ u)
  -- and no two answers of `job_lines` are told alike
  pub told_one : (a b : Result ℕ CallRefusal) → call_told a ≡ call_told b → a ≡ b
  -- lines or a numbered refusal, in the paper's order
  pub in_order : {own common b : List ℕ} {place : ℕ} {before after : List ℕ} {t : CallTold} → Called own common b place before after t → CallInOrder own common b place before after t
