-- The rows of a job's value are the kinds and numbers of the rows that the book writes for it, in order; so the row of a job with so many before it is the one so many behind
-- the job's B row in the book.
use Prim.Native.Nat.{ℕ, zero, suc, ◌+◌, ◌-◌}
use native.Mathlib.Omega.{arith}
use mathlib.Core.Path.{◌≡◌, refl, sym, ap, subst, ◌∙◌}
use mathlib.Core.List.{List, [], ◌∷◌, ◌++◌, append_assoc, append-nil}
use lib.ListN.{length, length-append, replicate}
use lib.Seq.{take_at}
use Rattle.kinds.specs.declared.Kind.{Kind}
use Rattle.kinds.specs.declared.Kind.TheVariants.{B, S, C}
use Rattle.kinds.specs.declared.Role.TheVariants.{Base, Scour, Clearance}
use Rattle.kinds.specs.declared.Row.{Row}
use Rattle.kinds.specs.Table.{blank_numbers}
use Rattle.rows.specs.Form.{BookRow}
use Rattle.book.specs.JobBook as written
use Rattle.book.specs.JobBook.{River, dry, scoured, crossed, WrittenJob, job, job_rows, Rivers, is_dry, is_scoured, is_crossed, GoodJob, good, Jobs, rows_of, Whole, one_whole, JobBook}
use Rattle.book.specs.Values.{stage_of, scour_of, clearance_of, load_rows, job_value}
use Rattle.job_faults.specs.First.{StandsAt}
use Rattle.job_faults.specs.JobRows.{row_of, river_rows, rows_in}
use Rattle.explained.specs.Written.{JobAt, here, earlier, RowInBook}
use Rattle.explained.proofs.Roles.{kind_by}

-- ---- the rows of a job's value
many : (ls : List BookRow) → length (load_rows ls) ≡ length ls
many [] = refl
many (x ∷ ls) = ap suc (many ls)

-- a row of a kind is that kind with its numbers
of_kind : (r : BookRow) (k : Kind) → r.keyed.row.kind ≡ k → row_of k r.keyed.row.numbers ≡ r.keyed.row
of_kind r k e = λ i. record { kind = sym e i; numbers = r.keyed.row.numbers }

rivers_written : {b : BookRow} (v : River) → Rivers b v → (loads : List Row) (ls : List BookRow) → loads ≡ load_rows ls
    → river_rows (stage_of v) (scour_of v) (clearance_of v) ++ loads ≡ load_rows (written.river_rows v ++ ls)
unfolding river_rows
rivers_written dry is_dry loads ls e = e
rivers_written (scoured s) (is_scoured x k) loads ls e = let p = of_kind s S (kind_by _ Scour x) in λ i. p i ∷ e i
rivers_written (crossed s c) (is_crossed x k y l) loads ls e =
    let p = of_kind s S (kind_by _ Scour x) in
    let q = of_kind c C (kind_by _ Clearance y) in
    λ i. p i ∷ q i ∷ e i

pub rows_written : (j : WrittenJob) → GoodJob j → rows_in (job_value j) ≡ load_rows (job_rows j)
rows_written (job b v ls) (good x rivers loads few) =
    let p = of_kind b B (kind_by _ Base x) in
    let q = rivers_written v rivers _ ls (take_at (load_rows ls) (replicate (16 - length ls) (record { kind = B; numbers = blank_numbers })) (length ls) (many ls)) in
    λ i. p i ∷ q i

-- ---- a row of a list of the book's rows
record Split (rs : List BookRow) (i : ℕ) (row : Row) : Type 0 where
  front : List BookRow
  is : BookRow
  back : List BookRow
  are : rs ≡ front ++ is ∷ back
  passed : length front ≡ i
  same : is.keyed.row ≡ row

split : (rs : List BookRow) (i : ℕ) (row : Row) → StandsAt (load_rows rs) i row → Split rs i row
unfolding StandsAt
split [] i row s = absurd s
split (x ∷ rs) zero row s = record { front = []; is = x; back = rs; are = refl; passed = refl; same = s }
split (x ∷ rs) (suc i) row s =
    let w = split rs i row s in
    record { front = x ∷ w.front; is = w.is; back = w.back; are = ap (λ (l : List BookRow). x ∷ l) w.are; passed = ap suc w.passed; same = w.same }

-- ---- a job among the rows of its book
record Among (rs : List BookRow) (j : WrittenJob) (n : ℕ) : Type 0 where
  before : List BookRow
  behind : List BookRow
  are : rs ≡ before ++ (job_rows j ++ behind)
  number : n ≡ length before + 1

among : {j : WrittenJob} {n : ℕ} {js : Jobs} → JobAt j n js → Among (rows_of js) j n
among {j} (here {js} e) = record { before = rows_of js; behind = []; are = ap (λ (l : List BookRow). rows_of js ++ l) (sym (append-nil (job_rows j))); number = e }
among {j} (earlier {js} {k} a) =
    let w = among a in
    record {
      before = w.before;
      behind = w.behind ++ job_rows k;
      are = ap (λ (l : List BookRow). l ++ job_rows k) w.are ∙ append_assoc w.before (job_rows j ++ w.behind) (job_rows k) ∙ ap (λ (l : List BookRow). w.before ++ l) (append_assoc (job_rows j) w.behind (job_rows k));
      number = w.number;
    }

job_good : {j : WrittenJob} {n : ℕ} {js : Jobs} → JobAt j n js → Whole js → GoodJob j
job_good (here e) (one_whole w g l) = g
job_good (earlier a) (one_whole w g l) = job_good a w

-- the row at a place of a job, in the book that has the job
pub row_written : {s : List ℕ} {js : Jobs} (b : JobBook s js) {j : WrittenJob} {n : ℕ} → JobAt j n js → (i : ℕ) (row : Row) → StandsAt (rows_in (job_value j)) i row
    → RowInBook b.typed (n + i) row
row_written b {j} {n} a i row f =
    let w = among a in
    let e = rows_written j (job_good a b.each) in
    let x = split (job_rows j) i row (subst (λ (l : List Row). StandsAt l i row) e f) in
    record {
      written = x.is;
      at = record {
        before = w.before ++ x.front;
        behind = x.back ++ w.behind;
        are =
            b.parts ∙ w.are ∙ ap (λ (l : List BookRow). w.before ++ (l ++ w.behind)) x.are
            ∙ ap (λ (l : List BookRow). w.before ++ l) (append_assoc x.front (x.is ∷ x.back) w.behind) ∙ sym (append_assoc w.before x.front (x.is ∷ (x.back ++ w.behind)));
        number = omega (arith, w.number, x.passed, length-append w.before x.front);
      };
      same = x.same;
    }
