-- Demand 3: while both fill books are accepted, exactly the job books are read; each book has one reading; and a job's lines depend on its own key,
-- kinds and numbers and on what the fill books hold for its member alone (02, P4: "and no other member's rows count").
use Rattle.std.specs.Prelude.{ℕ, ◌≤◌, ◌≡◌, List, length, take}
use Rattle.fields.specs.names.Names.{no_name}
use Rattle.fields.specs.declared.names.Name.{Name}
use Rattle.book.specs.JobBook.{WrittenJob, base, Jobs, JobBook}
use Rattle.book.specs.SameJob.{SameJob, listed}
use Rattle.fills.specs.declared.fill_rows.Fill.{Fill}
use Rattle.fills.specs.declared.fill_rows.Whose.{Whose}
use Rattle.fills.specs.FillBook.{FillBook}
use Rattle.fills.specs.Says.{Accepted}
use Rattle.csv_text.specs.Nth.{Nth}
use Rattle.debtarush.specs.CallTold.{CallTold, written, refused}
use Rattle.debtarush.specs.Called.{Called}
use Rattle.demands.specs.SameValues.{SameValues, SameFills}

pub record Demand3 : Type 0 where
  -- a call is refused with 1 to 6 exactly if the bytes are no job book, whatever the fill books
  pub refused_none : {own common b : List ℕ} {place : ℕ} {before after : List ℕ} {n row : ℕ} → Called own common b place before after (refused n row) → n ≤ 6
      → (js : Jobs) → JobBook b js → ⊥
  pub none_refused : {own common b : List ℕ} {place : ℕ} {before after : List ℕ} {t : CallTold} → Called own common b place before after t
      → ((js : Jobs) → JobBook b js → ⊥) → (n : ℕ) × (row : ℕ) × (t ≡ refused n row) × (1 ≤ n) × (n ≤ 6)
  -- and with 8 exactly if they are a job book and the fill books are not both accepted
  pub refused_fills : {own common b : List ℕ} {place : ℕ} {before after : List ℕ} {row : ℕ} → Called own common b place before after (refused 8 row)
      → (js : Jobs) × JobBook b js × (Accepted own common → ⊥)
  pub fills_refused : {own common b : List ℕ} {place : ℕ} {before after : List ℕ} {t : CallTold} → Called own common b place before after t
      → (js : Jobs) → JobBook b js → (Accepted own common → ⊥) → t ≡ refused 8 0
  -- a book has one reading, of its jobs and of its rows, with their cells and their notes
  pub one_book : {b : List ℕ} {js ks : Jobs} → JobBook b js → JobBook b ks → js ≡ ks
  pub one_reading : {b : List ℕ} {js ks : Jobs} (x : JobBook b js) (y : JobBook b ks) → (x.rows ≡ y.rows) × (x.typed ≡ y.typed)
  -- and so has a fill book, of its fills and of its rows
  pub one_fills : {whose : Whose} {s : List ℕ} {fs gs : List Fill} → FillBook whose s fs → FillBook whose s gs → fs ≡ gs
  pub one_fill_reading : {whose : Whose} {s : List ℕ} {fs gs : List Fill} (x : FillBook whose s fs) (y : FillBook whose s gs) → x.rows ≡ y.rows
  -- two calls that wrote, for jobs with the same key, kinds and numbers, with fill books that hold the same values for the member, wrote the same bytes
  pub same_lines : {own common own' common' b c : List ℕ} {p q : ℕ} {before before' after after' : List ℕ} {m n : ℕ} {js ks : Jobs} {j k : WrittenJob}
      → Called own common b p before after (written m) → Called own' common' c q before' after' (written n)
      → JobBook b js → JobBook c ks → Nth (listed js) p j → Nth (listed ks) q k → SameJob j k → SameValues own common own' common' (base j).keyed.key.member
      → (m ≡ n) × (take m after ≡ take n after')
  -- and with buffers of one length the answers are equal, 7 included
  pub same_answer : {own common own' common' b c : List ℕ} {p q : ℕ} {before before' after after' : List ℕ} {t u : CallTold} {js ks : Jobs} {j k : WrittenJob}
      → Called own common b p before after t → Called own' common' c q before' after' u → length before ≡ length before'
      → JobBook b js → JobBook c ks → Nth (listed js) p j → Nth (listed ks) q k → SameJob j k → SameValues own common own' common' (base j).keyed.key.member
      → t ≡ u
  -- the values for a member are the same where its own rows and the common ones are, whatever the rows of other members, the notes and the order
  pub own_rows_alone : {own common own' common' : List ℕ} {member : Name} (x : Accepted own common) (y : Accepted own' common')
      → SameFills x.owns y.owns member → SameFills x.commons y.commons no_name → SameValues own common own' common' member
