-- Where a refusal lies, 1 to 6: where the refusal of a book lies, stated of the book alone.
use Rattle.std.specs.Prelude.{ℕ, Option, Some, None, ◌+◌, ◌≤◌, ◌<◌, ◌≡◌, List, length}
use Rattle.csv_text.specs.Nth.{Nth}
use Rattle.csv_text.specs.rfc4180.Rfc4180.{Cell, File}
use Rattle.csv_text.specs.strays.Strays.{TextSays}
use Rattle.csv_text.specs.declared.strays.TextFault.{TextFault}
use Rattle.kinds.specs.declared.Role.TheVariants.{Base}
use Rattle.rows.specs.Form.{BookRow, Form}
use Rattle.rows.specs.faults.Faults.{RowSays}
use Rattle.rows.specs.declared.faults.RowFault.{RowFault}
use Rattle.jobs.specs.misplaced.Rules.{FirstRule}
use Rattle.jobs.specs.declared.misplaced.Misplaced.{Misplaced}
use Rattle.jobs.specs.declared.misplaced.Misplaced.TheVariants.{NoLoad}
use Rattle.book.specs.JobBook.{IsA, Jobs, count, JobBook}
use Rattle.book.specs.Beginning.{Begins}
use Rattle.book.specs.Says.{Unfinished}
use Rattle.book.specs.faults.Rules.{Rule, UsedAt}
use Rattle.book.specs.declared.faults.BookFault.{BookFault}
use Rattle.book.specs.declared.faults.BookFault.TheVariants as fault

-- row n, behind rows that a job book may begin with
pub record Behind (rows : List (List Cell)) (n : ℕ) : Type 0 where
  pub row : List Cell
  pub at : Nth rows n row
  pub typed : List BookRow
  pub jobs : Jobs
  pub begins : Begins at.before typed jobs

-- and a B row in its place: no rule of 4 holds of it
pub record BaseBehind (rows : List (List Cell)) (n : ℕ) : Type 0 where
  pub behind : Behind rows n
  pub typed : BookRow
  pub form : Form behind.row typed
  pub is_base : IsA Base typed
  pub placed : (why : Misplaced) → Rule behind.jobs typed why → ⊥

-- where the rows of a text are refused, 3 to 6. Each is stated of the row behind rows that a job book may begin with; the end while the job has no
-- load row counts as one row past the last. 3: why it has no form. 4: the first rule that holds. 5: "that there are 64 jobs before". 6: the earlier row
pub data RowsLie (rows : List (List Cell)) : Option BookFault → Type 0 where
  row : {n : ℕ} {f : RowFault} (b : Behind rows n) → RowSays b.row (Some f) → RowsLie rows (Some (fault.Row n f))
  misplaced : {n : ℕ} {why : Misplaced} {r : BookRow} (b : Behind rows n) → Form b.row r → FirstRule (Rule b.jobs r) why → RowsLie rows (Some (fault.Misplaced n why))
  unfinished : {n : ℕ} → Unfinished rows → n ≡ length rows + 1 → RowsLie rows (Some (fault.Misplaced n NoLoad))
  too_many : {n : ℕ} (b : BaseBehind rows n) → count b.behind.jobs ≡ 64 → RowsLie rows (Some (fault.TooManyJobs n))
  used_key : {n m : ℕ} (b : BaseBehind rows n) → count b.behind.jobs < 64 → UsedAt b.typed b.behind.jobs m → RowsLie rows (Some (fault.UsedKey n m))

-- where the refusal of a book lies: nowhere, where the bytes are a job book; 1, too long; 2, where the text stops being RFC 4180; and in its rows
pub data BookLies (s : List ℕ) : Option BookFault → Type 0 where
  sound : {js : Jobs} → JobBook s js → BookLies s None
  too_long : 65536 < length s → BookLies s (Some fault.TooLong)
  text : {f : TextFault} → length s ≤ 65536 → TextSays s (Some f) → BookLies s (Some (fault.Text f))
  rows : {css : List (List Cell)} {f : Option BookFault} → length s ≤ 65536 → File s css → RowsLie css f → BookLies s f
