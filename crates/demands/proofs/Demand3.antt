-- Demand 3 holds.
use Prim.Native.Nat.{ℕ, ◌≤◌}
use native.Mathlib.Omega.{arith}
use mathlib.Core.Path.{◌≡◌, refl, sym, ap, subst, ◌∙◌}
use mathlib.Core.List.{List}
use lib.ListN.{length}
use Rattle.arithmetic.proofs.Cases.{impossible}
use Rattle.jobs.specs.declared.Job.{Job}
use Rattle.fields.specs.names.Names.{no_name}
use Rattle.fields.specs.declared.names.Name.{Name}
use Rattle.rows.specs.declared.keys.Key.{Key}
use Rattle.book.specs.JobBook.{WrittenJob, job, base, Jobs, JobBook}
use Rattle.book.specs.Values.{job_value}
use Rattle.book.specs.SameJob.{SameJob, listed}
use Rattle.csv_text.specs.Nth.{Nth}
use Rattle.book.proofs.Answers as read
use Rattle.book.proofs.Same.{same_value}
use Rattle.earth.specs.coefficients.Coefficients.{Coefficient}
use Rattle.fills.specs.Says.{Accepted, FillFor}
use Rattle.fills.proofs.OneReading.{fills_one, rows_one}
use Rattle.fills.proofs.Sharing.{says_there, says_shared}
use Rattle.debtarush.specs.CallTold.{CallTold, written, refused}
use Rattle.debtarush.specs.Called.{Called, no_book, no_fills, no_place, too_short, lines}
use Rattle.debtarush.proofs.Texts.{text_one}
use Rattle.debtarush.proofs.Answers.{called_one}
use Rattle.demands.specs.SameValues.{SameValues, SameFills}
use Rattle.demands.specs.Demand3.{Demand3}
use Rattle.demands.proofs.Keys.{good_job, value_at}
use Rattle.demands.proofs.Numbers.{book_numbers}
use Rattle.demands.proofs.Wrote.{CallOnJob, short, full, call_on_job, wrote}

module _ {own common b : List ℕ} {place : ℕ} {before after : List ℕ} where
  refused_none : {n row : ℕ} → Called own common b place before after (refused n row) → n ≤ 6 → (js : Jobs) → JobBook b js → ⊥
  refused_none (no_book {n = m} {row = q} s a e) l js p = read.refused_none s js p
  refused_none {n} (no_fills p q a e) l js x = let z : n ≡ 8 = cc in omega arith
  refused_none {n} (no_place p w q a e) l js x = let z : n ≡ 10 = cc in omega arith
  refused_none {n} (too_short p r s k a e) l js x = let z : n ≡ 7 = cc in omega arith
  refused_none (lines p r s k a e) l js x = impossible cc

  none_refused : {t : CallTold} → Called own common b place before after t → ((js : Jobs) → JobBook b js → ⊥) → (n : ℕ) × (row : ℕ) × (t ≡ refused n row) × (1 ≤ n) × (n ≤ 6)
  none_refused (no_book {n} {row} s a e) h = (n, row, e, (book_numbers s).0, (book_numbers s).1)
  none_refused (no_fills {js} p q a e) h = absurd (h js p)
  none_refused (no_place {js} p w q a e) h = absurd (h js p)
  none_refused (too_short {js} p r s l a e) h = absurd (h js p)
  none_refused (lines {js} p r s l a e) h = absurd (h js p)

  refused_fills : {row : ℕ} → Called own common b place before after (refused 8 row) → (js : Jobs) × JobBook b js × (Accepted own common → ⊥)
  refused_fills (no_book {n = m} s a e) = let z : m ≡ 8 = cc in absurd (omega (arith, (book_numbers s).1))
  refused_fills (no_fills {js} p q a e) = (js, p, q)
  refused_fills (no_place p w q a e) = let z : ◌≡◌ {A = ℕ} 8 10 = cc in absurd (omega arith)
  refused_fills (too_short p r s l a e) = let z : ◌≡◌ {A = ℕ} 8 7 = cc in absurd (omega arith)
  refused_fills (lines p r s l a e) = impossible cc

-- jobs with the same key, kinds and numbers have one value
same_job : {b c : List ℕ} {p q : ℕ} {js ks : Jobs} {j k : WrittenJob} → JobBook b js → JobBook c ks → Nth (listed js) p j → Nth (listed ks) q k → SameJob j k → job_value j ≡ job_value k
same_job x y r s e = same_value (good_job x r) (good_job y s) e

-- the answer goes by the text and the buffer's length
same_told : {fill : ℕ → ℕ → Coefficient} {j k : Job} {before before' after after' : List ℕ} {t u : CallTold} → j ≡ k → length before ≡ length before'
    → CallOnJob fill j before after t → CallOnJob fill k before' after' u → t ≡ u
same_told e l (short s a p) (short v c q) = p ∙ sym q
same_told e l (short s a p) (full v c d q) = let z = ap length (text_one e s v) in absurd (omega arith)
same_told e l (full s a d p) (short v c q) = let z = ap length (text_one e s v) in absurd (omega arith)
same_told e l (full s a d p) (full v c f q) = p ∙ ap (λ (x : List ℕ). written (length x)) (text_one e s v) ∙ sym q

-- a job as its book writes it has the key of its value
key_same : (j : WrittenJob) → (base j).keyed.key ≡ (job_value j).key
key_same (job b v ls) = refl

-- two pairs of fill books that hold the same values for the member of a job, for that of its value, and so for that of the same job's
module _ {own common own' common' : List ℕ} (j : WrittenJob) (v : SameValues own common own' common' (base j).keyed.key.member) where
  fills_here : FillFor own common (job_value j).key.member v.fill
  fills_here = subst (λ (x : Key). FillFor own common x.member v.fill) (key_same j) v.here

  fills_there : {k : Job} → job_value j ≡ k → FillFor own' common' k.key.member v.fill
  fills_there e = subst (λ (x : Key). FillFor own' common' x.member v.fill) (key_same j ∙ ap (λ (x : Job). x.key) e) v.there

-- the same fills of the member, and the same common ones, say the same for each soil and slope
own_rows_alone : {own common own' common' : List ℕ} {member : Name} (x : Accepted own common) (y : Accepted own' common')
    → SameFills x.owns y.owns member → SameFills x.commons y.commons no_name → SameValues own common own' common' member
own_rows_alone {member = member} x y p q =
    let w = says_there x.owns x.commons member in
    record {
      fill = w.0;
      here = record { books = x; says = w.1 };
      there = record {
        books = y;
        says = λ soil slope. says_shared (p.there soil slope) (p.back soil slope) (q.there soil slope) (q.back soil slope) (w.1 soil slope);
      };
    }

pub demand3 : Demand3
demand3 = record {
  refused_none = refused_none;
  none_refused = none_refused;
  refused_fills = refused_fills;
  fills_refused = λ c js p n. (called_one c (no_fills p n refl refl)).1;
  one_book = read.book_one;
  one_reading = λ x y. (read.cells_one x y, read.reading_one x y);
  one_fills = fills_one;
  one_fill_reading = rows_one;
  same_lines = λ {js = js} {ks = ks} {j = j} c d x y r s e f.
      let same = same_job x y r s e in
      let v = wrote (call_on_job x (value_at js r) (fills_here j f) c) in
      let w = wrote (call_on_job y (value_at ks s) (fills_there j f same) d) in
      let t = text_one same v.text w.text in
      (v.long ∙ ap length t ∙ sym w.long, v.first ∙ t ∙ sym w.first);
  same_answer = λ {js = js} {ks = ks} {j = j} c d l x y r s e f.
      let same = same_job x y r s e in
      same_told same l (call_on_job x (value_at js r) (fills_here j f) c) (call_on_job y (value_at ks s) (fills_there j f same) d);
  own_rows_alone = own_rows_alone;
}
