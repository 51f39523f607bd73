-- The jobs gone through from the last back to the first: each is taken off with its rows, until one has the key.
use Prim.Native.Nat.{ℕ, ◌+◌, ◌-◌, ◌≤◌, ◌<◌}
use native.Mathlib.Omega.{arith}
use mathlib.Core.Path.{◌≡◌, refl, sym, ap, subst, ◌∙◌}
use mathlib.Core.List.{List, [], ◌∷◌, ◌++◌}
use lib.ListN.{length, get_or, replicate, length-append}
use lib.Seq.{append_snoc, get_or_at}
use Rattle.kinds.specs.Table.{blank_numbers}
use Rattle.rows.specs.Form.{BookRow}
use Rattle.rows.specs.keys.Among.{void_key}
use Rattle.rows.specs.declared.keys.Key.{Key}
use Rattle.jobs.specs.Blank.{no_job}
use Rattle.jobs.specs.declared.Job.{Job}
use Rattle.jobs.specs.declared.stages.Stage.TheVariants.{Unbegun}
use Rattle.book.specs.JobBook.{River, dry, scoured, crossed, WrittenJob, job, base, river_rows, job_rows, Jobs, none, ◌and◌, count, rows_of, Used, last, before}
use Rattle.book.specs.Values.{stage_of, job_value, values}
use Rattle.book.specs.faults.Rules as rules
use Rattle.book.specs.faults.Rules.{UsedAt}
use Rattle.book.specs.steps.Faulted.{rows_in_river, UsedAmong}
use Rattle.book.proofs.Keeping.{values_many}

-- what stands in no array
abbrev pub void_job : Job
void_job = record { stage = Unbegun; key = void_key; base = blank_numbers; scour = blank_numbers; clearance = blank_numbers; count = 0; loads = [] }

-- a job's rows, by its value
river_many : (v : River) → length (river_rows v) ≡ rows_in_river (stage_of v)
river_many dry = refl
river_many (scoured s) = refl
river_many (crossed s c) = refl

job_many : (j : WrittenJob) → length (job_rows j) ≡ 1 + (rows_in_river (job_value j).stage + (job_value j).count)
job_many (job b v ls) = let n = length-append (river_rows v) ls in let m = river_many v in omega arith

key_of : (j : WrittenJob) → (job_value j).key ≡ (base j).keyed.key
key_of (job b v ls) = refl

not_none : {r : BookRow} (js : Jobs) → count js ≡ 0 → Used r js → ⊥
not_none none e u = elim u [ ]
not_none (js and j) e u = omega arith

module _ {jobs : List Job} {n row : ℕ} {key : Key} (w : UsedAmong jobs n row key) where
  -- one of the first i jobs has the key, and `at` is one past their rows
  pub record Looking (i at : ℕ) : Type 0 where
    pub left : Jobs
    pub rest : List Job
    pub few : i ≤ 64
    pub many : i ≡ count left
    pub held : jobs ≡ values left ++ rest
    pub past : at ≡ length (rows_of left) + 1
    pub used : Used w.of left
    pub back : (m : ℕ) → UsedAt w.of left m → UsedAt w.of w.written m

  pub looking_start : Looking n row
  looking_start = record { left = w.written; rest = replicate (64 - length (values w.written)) no_job; few = w.few; many = w.many; held = w.held; past = w.past; used = w.used; back = λ m u. u }

  -- the last of them, found in its place
  pub record Opened (i at : ℕ) (found : Job) : Type 0 where
    pub front : Jobs
    pub end : WrittenJob
    pub rest : List Job
    pub few : i ≤ 64
    pub many : i ≡ count front
    pub held : jobs ≡ values front ++ (job_value end ∷ rest)
    pub is : found ≡ job_value end
    pub past : at ≡ length (rows_of front) + 1 + length (job_rows end)
    pub used : Used w.of (front and end)
    pub back : (m : ℕ) → UsedAt w.of (front and end) m → UsedAt w.of w.written m

  opened_from : (i at : ℕ) (left : Jobs) (rest : List Job) → i ≤ 64 → i + 1 ≡ count left → jobs ≡ values left ++ rest → at ≡ length (rows_of left) + 1 → Used w.of left
      → ((m : ℕ) → UsedAt w.of left m → UsedAt w.of w.written m) → Opened i at (get_or jobs i void_job)
  opened_from i at none rest f c h p u k = absurd (omega arith)
  opened_from i at (js and j) rest f c h p u k =
      let e : jobs ≡ values js ++ (job_value j ∷ rest) = h ∙ append_snoc (values js) (job_value j) rest in
      let m = values_many js in
      let l : length (values js) ≡ i = omega arith in
      record {
        front = js;
        end = j;
        rest = rest;
        few = f;
        many = omega arith;
        held = e;
        is = ap (λ (x : List Job). get_or x i void_job) e ∙ get_or_at (values js) (job_value j) rest void_job i l;
        past = omega (arith, length-append (rows_of js) (job_rows j));
        used = u;
        back = k;
      }

  pub opened : {i at : ℕ} → Looking i at → 0 < i → Opened (i - 1) at (get_or jobs (i - 1) void_job)
  opened {i} {at} l h = let m = l.many in let f = l.few in opened_from (i - 1) at l.left l.rest (omega arith) (omega arith) l.held l.past l.used l.back

  module _ {i at : ℕ} {found : Job} (o : Opened i at found) where
    -- its rows taken off
    pub rows_off : at ≡ length (rows_of o.front) + 1 + (1 + (rows_in_river found.stage + found.count))
    rows_off = subst (λ (x : Job). at ≡ length (rows_of o.front) + 1 + (1 + (rows_in_river x.stage + x.count))) (sym o.is) (let p = o.past in omega (arith, job_many o.end))

    own_key : found.key ≡ (base o.end).keyed.key
    own_key = ap (λ (x : Job). x.key) o.is ∙ key_of o.end

    -- it has the key
    pub found_used : found.key ≡ key → (m : ℕ) → m ≡ length (rows_of o.front) + 1 → UsedAt w.of w.written m
    found_used e m p = o.back m (rules.last (record { same = sym own_key ∙ e ∙ w.is }) p)

    -- it has not
    earlier : (found.key ≡ key → ⊥) → (js : Jobs) (j : WrittenJob) → found.key ≡ (base j).keyed.key → Used w.of (js and j) → Used w.of js
    earlier n js j e (last s) = absurd (n (e ∙ s.same ∙ sym w.is))
    earlier n js j e (before u) = u

    pub look_on : (found.key ≡ key → ⊥) → (m : ℕ) → m ≡ length (rows_of o.front) + 1 → Looking i m
    look_on n m p = record {
      left = o.front;
      rest = job_value o.end ∷ o.rest;
      few = o.few;
      many = o.many;
      held = o.held;
      past = p;
      used = earlier n o.front o.end own_key o.used;
      back = λ k u. o.back k (rules.before u);
    }

  pub none_left : {at : ℕ} → Looking 0 at → ⊥
  none_left l = not_none l.left (sym l.many) l.used
