-- The job at a place of a book: it is one, and the jobs of a book that is given stand in the first of the 64 places that are read.
use Prim.Native.Nat.{ℕ, suc, ◌-◌, ◌≤◌, ◌<◌}
use native.Mathlib.Omega.{arith}
use mathlib.Core.Path.{◌≡◌, sym, ap, subst, ◌∙◌}
use mathlib.Core.Logic.{◌⊎◌, inl, inr, ⊎_elim}
use mathlib.Core.List.{List, ◌∷◌, ◌++◌}
use lib.ListN.{length, get_or, take, drop, replicate, length-append, take-append-drop, get_or-append}
use lib.Seq.{drop-cons, length-take-le}
use Rattle.jobs.specs.declared.Job.{Job}
use Rattle.jobs.specs.Blank.{no_job}
use Rattle.book.specs.JobBook.{Jobs, count, JobBook}
use Rattle.book.specs.counted.Places.{places}
use Rattle.book.specs.Values.{values}
use Rattle.book.specs.Says as book
use Rattle.book.specs.Reading as reading
use Rattle.csv_text.specs.Nth.{Nth}
use Rattle.csv_text.proofs.notes.Answers.{nth_one}
use Rattle.rows.specs.refusals.Numbers.{refusal_number}
use Rattle.book.specs.declared.counted.Book.{Book}
use Rattle.book.specs.declared.counted.Refused.{Refused}
use Rattle.std.specs.Prelude.{Ok, Err}
use Rattle.book.proofs.Answers.{read_exactly, book_one}
use Rattle.book.proofs.Keeping.{values_many}

module _ {b : List ℕ} {place : ℕ} where
  -- the job at a place is one
  pub job_one : {js ks : Jobs} {j k : Job} → JobBook b js → JobBook b ks → Nth (values js) place j → Nth (values ks) place k → j ≡ k
  job_one {k = k} x y p q = nth_one p (subst (λ (l : Jobs). Nth (values l) place k) (book_one y x) q)

  -- and there is none at 0, nor past the last job
  pub job_there : {js ks : Jobs} {j : Job} → JobBook b js → JobBook b ks → Nth (values js) place j → (place ≡ 0) ⊎ (count ks < place) → ⊥
  job_there {js} {j = j} x y p none =
      let number = p.number in
      ⊎_elim (λ z. omega arith) (λ k. omega (arith, ap length p.are, length-append p.before (j ∷ p.behind), values_many js, ap count (book_one x y))) none

-- a book that is given has its jobs in the first places
pub record Held (s : List ℕ) (n : ℕ) (jobs : List Job) : Type 0 where
  pub written : Jobs
  pub book : JobBook s written
  pub many : n ≡ length (values written)
  pub few : n ≤ 64
  pub are : jobs ≡ places (values written)

pub held : {s : List ℕ} {b : Book} → reading.BookIs s (Ok b) → Held s b.count b.jobs
held {b = b} w =
    let a = read_exactly.0 w.says in
    let m : b.count ≡ length (values a.jobs) = a.many ∙ sym (values_many a.jobs) in
    let f = a.book.few in
    let k = a.many in
    record { written = a.jobs; book = a.book; many = m; few = omega arith; are = w.held ∙ ap places a.are }

-- and one that is refused says so
pub refusal : {s : List ℕ} {r : Refused} → reading.BookIs s (Err r) → book.BookSays s (book.refused (refusal_number r.why) r.row)
refusal w = w.says

module _ {s : List ℕ} {n : ℕ} {jobs : List Job} (h : Held s n jobs) where
  pub within : {i : ℕ} → i < n → i < length jobs
  within k =
      let m = h.many in
      let vs = values h.written in
      omega (arith, ap length h.are, length-append vs (replicate (64 - length vs) no_job))

module _ {s : List ℕ} {n : ℕ} {jobs : List Job} (h : Held s n jobs) (place : ℕ) where
  pub job_at : (d : Job) → 1 ≤ place → place ≤ n → Nth (values h.written) place (get_or jobs (place - 1) d)
  job_at d low high =
      let vs = values h.written in
      let i = place - 1 in
      let m = h.many in
      let l : i < length vs = omega arith in
      let v : get_or jobs i d ≡ get_or vs i d = ap (λ (x : List Job). get_or x i d) h.are ∙ get_or-append vs (replicate (64 - length vs) no_job) d i l in
      record {
        before = take i vs;
        behind = drop (suc i) vs;
        are = sym (take-append-drop i vs) ∙ ap (λ (x : List Job). take i vs ++ x) (drop-cons vs i d l) ∙ ap (λ (x : Job). take i vs ++ x ∷ drop (suc i) vs) (sym v);
        number = omega (arith, length-take-le i vs (omega arith));
      }

  pub no_job_at : (place ≡ 0) ⊎ (n < place) → (place ≡ 0) ⊎ (count h.written < place)
  no_job_at none = ⊎_elim inl (λ k. inr (omega (arith, h.many, values_many h.written))) none
