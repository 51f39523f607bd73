-- The loop over the rows: those passed are rows that a job book may begin with, and the values held are those of their jobs.
use Prim.Native.Nat.{ℕ, ◌+◌, ◌-◌, ◌≤◌, ◌<◌}
use native.Mathlib.Omega.{arith}
use mathlib.Core.Path.{◌≡◌, refl, sym, ap, subst, ◌∙◌}
use mathlib.Core.List.{List, [], ◌∷◌, ◌++◌}
use lib.ListN.{length, set, take, replicate, length-append}
use lib.Seq.{length-take-le, get_or-take}
use Rattle.arithmetic.proofs.Cases.{impossible}
use Rattle.csv_text.specs.rfc4180.Rfc4180.{Cell, File, Readable}
use Rattle.csv_text.proofs.notes.Reached.{RowReached, reached_start, reached_more, reached_last, reached_many}
use Rattle.rows.specs.Form.{BookRow, Form}
use Rattle.csv_text.specs.cells.Standing.{raw}
use Rattle.rows.specs.Answer.{RowGiven, RowSeen, SeenAt}
use Rattle.rows.specs.declared.keys.Key.{Key}
use Rattle.rows.specs.declared.RowRead.{RowRead}
use Rattle.jobs.specs.Place.{InPlace, grown}
use Rattle.jobs.specs.Taking as taking
use Rattle.jobs.specs.declared.Job.{Job}
use Rattle.kinds.specs.declared.Role.TheVariants.{Base}
use Rattle.book.specs.JobBook.{IsA, Jobs, none, ◌and◌, job, dry, count, Forms, no_form, form, Different, no_key, new_key}
use Rattle.book.specs.Beginning.{no_job, Loaded, Begins}
use Rattle.rows.specs.keys.Among.{Among}
use Rattle.rows.specs.keys.Beginning as beginning
use Rattle.std.specs.Prelude.{Some, None, Result, Ok, Err}
use Rattle.rows.specs.keys.Among.{void_key}
use Rattle.rows.specs.declared.keys.Keyed.{Keyed}
use Rattle.book.specs.steps.Kept.{last_value, keys_of}
use Rattle.rows.specs.keys.Keyed.{no_row}
use Rattle.rows.specs.refusals.Numbers.{refusal_number}
use Rattle.rows.specs.declared.refusals.Refusal.{Refusal}
use Rattle.rows.specs.declared.refusals.Refusal.TheVariants.{TooLong, NotCsv, NoForm, Misplaced, TooManyJobs, UsedKey}
use Rattle.rows.proofs.refusals.Numbers.{number_one}
use Rattle.book.specs.steps.Step.{RefusesRow, TakesRow}
use Rattle.book.specs.steps.Stop.{Reached, StopIs, through, formless, misplaced, surplus, reused}
use Rattle.book.specs.declared.walk.Stop.{Stop}
use Rattle.book.proofs.Steps.{GrowsBy, starts, scours, crosses, bears, extend}
use Rattle.book.proofs.Growing.{Grown, place_grows}
use Rattle.book.proofs.Keeping.{keys_many, among_used, used_among, Standing, base_jobs, standing_starts, joins, standing_joins}

forms_more : {css : List (List Cell)} {rs : List BookRow} {cs : List Cell} {r : BookRow} → Forms css rs → Form cs r → Forms (css ++ cs ∷ []) (rs ++ r ∷ [])
forms_more no_form g = form g no_form
forms_more (form f fs) g = form f (forms_more fs g)

-- behind a row there is a job
some_job : {js ks : Jobs} {r : BookRow} → GrowsBy js r ks → 1 ≤ count ks
some_job (starts l h) = omega arith
some_job (scours h f) = omega arith
some_job (crosses h f) = omega arith
some_job (bears h f n) = omega arith

-- and a B row finds a load row in the job before it
base_loaded : {js ks : Jobs} {r : BookRow} → IsA Base r → GrowsBy js r ks → Loaded js
base_loaded k (starts l h) = l
base_loaded k (scours h e) = impossible cc
base_loaded k (crosses h e) = impossible cc
base_loaded k (bears h e n) = impossible cc

-- a key is among the first n as it is in the part of the list that they are
module _ (ks : List Key) (n : ℕ) (k : Key) (few : n ≤ length ks) where
  long : length (take n ks) ≡ n
  long = length-take-le n ks few

  part_among : Among (take n ks) (length (take n ks)) k → Among ks n k
  part_among a = let h = a.within in let l : a.at < n = omega (arith, long) in record { at = a.at; within = l; is = sym (get_or-take n ks a.at void_key l) ∙ a.is }

  among_part : Among ks n k → Among (take n ks) (length (take n ks)) k
  among_part a = let h = a.within in record { at = a.at; within = omega (arith, long); is = get_or-take n ks a.at void_key h ∙ a.is }

  -- so a job begins behind those as it does behind the part
  pub part_begins : (b : Result (Unit {0}) Refusal) → beginning.BeginningIs (take n ks) (length (take n ks)) k b → beginning.BeginningIs ks n k b
  part_begins b (beginning.surplus m e) = beginning.surplus (omega (arith, long)) e
  part_begins b (beginning.reused m a e) = beginning.reused (omega (arith, long)) (part_among a) e
  part_begins b (beginning.unused m a e) = beginning.unused (omega (arith, long)) (λ w. a (among_part w)) e

-- where a job begins, it is one of 64, and its key is new
pub begun_new : {ks : List Key} {n : ℕ} {k : Key} {b : Result (Unit {0}) Refusal} {u : Unit {0}} → beginning.BeginningIs ks n k b → b ≡ Ok u → (n < 64) × (Among ks n k → ⊥)
begun_new (beginning.surplus m e) f = let g = ap beginning.beginning_told f in impossible cc
begun_new (beginning.reused m a e) f = let g = ap beginning.beginning_told f in impossible cc
begun_new (beginning.unused m a e) f = (m, a)

pub record Walk (s : List ℕ) (last : Job) (jobs : List Job) (keys : List Key) (n row at : ℕ) : Type 0 where
  pub size : length s ≤ 65536
  pub passed : List (List Cell)
  pub reached : RowReached s passed row at
  pub typed : List BookRow
  pub written : Jobs
  pub begins : Begins passed typed written
  pub stands : Standing written n keys jobs last

pub walk_start : {s : List ℕ} {last : Job} {jobs : List Job} {keys : List Key} → length s ≤ 65536 → Readable s → Standing none 0 keys jobs last → Walk s last jobs keys 0 1 0
walk_start {s} n q w = record {
  size = n;
  passed = [];
  reached = reached_start q;
  typed = [];
  written = none;
  begins = record { forms = no_form; placed = record { are = refl; shaped = no_job }; few = omega arith; different = no_key };
  stands = w;
}

module _ {s : List ℕ} {last : Job} {jobs : List Job} {keys : List Key} {n row at : ℕ} {r : RowRead} (i : Walk s last jobs keys n row at) (h : SeenAt s at r) where
  abbrev cs : List Cell
  cs = i.reached.row

  seen : RowSeen s at cs i.reached.behind r
  seen = h _ _ i.reached.here

  pub walk_on : r.next < length s → at < r.next
  walk_on k = seen.on k

  -- where the walk stops at this row
  abbrev stopped : Refusal → Job → Stop
  stopped why left = record { ending = Err why; row = row; at = at; job = left; count = n; jobs = jobs }

  abbrev stands_at : (why : Refusal) (left : Job) → Reached s (stopped why left)
  stands_at why left =
      let w = i.reached in
      record {
        passed = i.passed;
        this = cs;
        behind = w.behind;
        text = subst (File s) w.are w.reading;
        here = w.here;
        within = w.within;
        number = w.number;
        typed = i.typed;
        written = i.written;
        begins = i.begins;
        many = i.stands.many;
        held = i.stands.jobs;
      }

  walk_formless : (left : Job) → r.row ≡ None → StopIs s (stopped NoForm left)
  walk_formless left g = formless refl (stands_at NoForm left) (subst (RowGiven cs) g seen.means)

  -- the row has a form
  module _ {keyed : Keyed} (g : r.row ≡ Some keyed) where
    abbrev this : BookRow
    this = record { keyed = keyed; note = raw cs 9 }

    means : Form cs this
    means = subst (RowGiven cs) g seen.means

    placing : InPlace last keyed → InPlace (last_value i.written) keyed
    placing w = subst (λ (j : Job). InPlace j keyed) i.stands.job w

    walk_misplaced : (left : Job) → left ≡ last → (InPlace last keyed → ⊥) → StopIs s (stopped Misplaced left)
    walk_misplaced left e w = misplaced refl (stands_at Misplaced left) means (e ∙ i.stands.job) (λ p. w (subst (λ (j : Job). InPlace j keyed) e p))

    -- the jobs with this row more
    grows_by : {next : Job} → InPlace last keyed → next ≡ grown last keyed → Grown i.written this next
    grows_by {next} w e =
        let k = place_grows i.written this (placing w) in
        record { jobs = k.jobs; step = k.step; is = k.is ∙ ap (λ (j : Job). grown j keyed) (sym i.stands.job) ∙ sym e }

    -- behind the row
    pub record After (next : Job) (vs : List Job) (ks : List Key) (m : ℕ) : Type 0 where
      pub grew : Jobs
      pub step : GrowsBy i.written this grew
      pub begins : Begins (i.passed ++ cs ∷ []) (i.typed ++ this ∷ []) grew
      pub stands : Standing grew m ks vs next

    begins_more : {js : Jobs} → GrowsBy i.written this js → count js ≤ 64 → (Different i.written → Different js) → Begins (i.passed ++ cs ∷ []) (i.typed ++ this ∷ []) js
    begins_more p few d = record { forms = forms_more i.begins.forms means; placed = extend i.begins.placed p; few = few; different = d i.begins.different }

    pub walk_joined : (next : Job) → taking.TakeSays last keyed taking.joins next → After next (set jobs (n - 1) next) keys n
    walk_joined next t =
        let k = grows_by t.1 t.2 in
        let j = joins t.0 k.step in
        let m = j.many in
        let f = i.begins.few in
        let o = i.stands.many in
        record {
          grew = k.jobs;
          step = k.step;
          begins = begins_more k.step (omega arith) j.different;
          stands = standing_joins i.stands (omega arith) j k.is;
        }

    -- a row that joins the last job finds one
    pub walk_some : (next : Job) → taking.TakeSays last keyed taking.joins next → (1 ≤ n) × (n ≤ 64)
    walk_some next t =
        let j = joins t.0 (grows_by t.1 t.2).step in
        let m = j.some in
        let f = i.begins.few in
        let o = i.stands.many in
        (omega arith, omega arith)

    module _ (next : Job) (t : taking.TakeSays last keyed taking.starts next) where
      abbrev started : Jobs
      started = i.written and job this dry []

      start : GrowsBy i.written this started
      start = let k = grows_by t.1 t.2 in subst (GrowsBy i.written this) (base_jobs t.0 k.step) k.step

      holds : last_value started ≡ next
      holds = let k = grows_by t.1 t.2 in ap last_value (sym (base_jobs t.0 k.step)) ∙ k.is

      key_is : next.key ≡ keyed.key
      key_is = ap (λ (j : Job). j.key) (sym holds)

      loaded : Loaded i.written
      loaded = base_loaded t.0 start

      walk_surplus : 64 ≤ n → StopIs s (stopped TooManyJobs next)
      walk_surplus m = surplus refl (stands_at TooManyJobs next) means t.0 loaded m

      walk_reused : n < 64 → Among keys n next.key → StopIs s (stopped UsedKey next)
      walk_reused m a =
          let u = among_used i.written n keys i.stands.many i.stands.keys this (subst (Among keys n) key_is a) in
          reused refl (stands_at UsedKey next) means t.0 loaded m u key_is

      -- a job that may not begin
      pub walk_barred : {b : Result (Unit {0}) Refusal} (why : Refusal) → beginning.BeginningIs keys n next.key b → b ≡ Err why → StopIs s (stopped why next)
      walk_barred why (beginning.surplus m e) f =
          let g = ap beginning.beginning_told f in
          let q : 5 ≡ refusal_number why = cc in
          subst (λ (w : Refusal). StopIs s (stopped w next)) (number_one TooManyJobs why q) (walk_surplus m)
      walk_barred why (beginning.reused m a e) f =
          let g = ap beginning.beginning_told f in
          let q : 6 ≡ refusal_number why = cc in
          subst (λ (w : Refusal). StopIs s (stopped w next)) (number_one UsedKey why q) (walk_reused m a)
      walk_barred why (beginning.unused m a e) f = let g = ap beginning.beginning_told f in impossible cc

      pub walk_started : n < 64 → (Among keys n next.key → ⊥) → After next (set jobs (n + 1 - 1) next) (set keys n next.key) (n + 1)
      walk_started m a =
          let o = i.stands.many in
          let l : n ≡ n + 1 - 1 = omega arith in
          record {
            grew = started;
            step = start;
            begins = begins_more start (omega arith) (λ d. new_key d (λ u. a (subst (Among keys n) (sym key_is) (used_among i.written n keys o i.stands.keys this u))));
            stands = subst (λ (k : ℕ). Standing started (n + 1) (set keys n next.key) (set jobs k next) next) l (standing_starts this next.key i.stands m key_is holds);
          }

    module _ {next : Job} {vs : List Job} {ks : List Key} {m : ℕ} (w : After next vs ks m) where
      pub walk_more : r.next < length s → Walk s next vs ks m (row + 1) r.next
      walk_more k =
          record {
            size = i.size;
            passed = _;
            reached = reached_more i.reached seen.rest (walk_on k) k;
            typed = i.typed ++ this ∷ [];
            written = w.grew;
            begins = w.begins;
            stands = w.stands;
          }

      -- this was the last row
      module _ (k : length s ≤ r.next) where
        all : Begins i.reached.rows (i.typed ++ this ∷ []) w.grew
        all = subst (λ (l : List (List Cell)). Begins l (i.typed ++ this ∷ []) w.grew) (sym (reached_last i.reached seen.rest k)) w.begins

        pub walk_through : StopIs s (record { ending = Ok tt; row = row; at = at; job = next; count = m; jobs = vs })
        walk_through =
            let few = i.reached.few in
            let within = i.reached.within in
            let size = i.size in
            through refl i.reached.reading all (some_job w.step) (sym (reached_many i.reached seen.rest k)) (omega arith) w.stands.many w.stands.jobs w.stands.job

-- the walk stops at a row that is refused where it stands
module _ {s : List ℕ} {last : Job} {jobs : List Job} {keys : List Key} {n row at : ℕ} (i : Walk s last jobs keys n row at) {r : RowRead} (h : SeenAt s at r) where
  pub walk_refused : (why : Refusal) (left : Job) → left ≡ last → RefusesRow last r.row why → StopIs s (stopped i h why left)
  walk_refused TooLong left e w = absurd w
  walk_refused NotCsv left e w = absurd w
  walk_refused NoForm left e w = walk_formless i h left w
  walk_refused Misplaced left e w = walk_misplaced i h w.has_form left e w.misplaced
  walk_refused TooManyJobs left e w = absurd w
  walk_refused UsedKey left e w = absurd w

-- the keys so far stand in the first of their places
pub keys_few : {s : List ℕ} {last : Job} {jobs : List Job} {keys : List Key} {n row at : ℕ} → Walk s last jobs keys n row at → n ≤ length keys
keys_few i =
    let k = keys_of i.written in
    omega (arith, ap length i.stands.keys, length-append k (replicate (64 - length k) no_row.key), keys_many i.written, i.stands.many)

-- behind a row that has a form and was taken up
module _ {s : List ℕ} {last : Job} {jobs : List Job} {keys : List Key} {n row at : ℕ} {r : RowRead} (i : Walk s last jobs keys n row at) (h : SeenAt s at r) where
  pub record Behind (next : Job) (ks : List Key) (m : ℕ) : Type 0 where
    pub keyed : Keyed
    pub has_form : r.row ≡ Some keyed
    pub after : After i h has_form next (set jobs (m - 1) next) ks m

  pub behind_joined : {next : Job} → TakesRow last r.row taking.joins next → Behind next keys n
  behind_joined {next} t = record { keyed = t.keyed; has_form = t.has_form; after = walk_joined i h t.has_form next t.taken }

  pub behind_started : {next : Job} → TakesRow last r.row taking.starts next → n < 64 → (Among keys n next.key → ⊥) → Behind next (set keys n next.key) (n + 1)
  behind_started {next} t few new = record { keyed = t.keyed; has_form = t.has_form; after = walk_started i h t.has_form next t.taken few new }

  module _ {next : Job} {ks : List Key} {m : ℕ} (b : Behind next ks m) where
    pub behind_more : r.next < length s → Walk s next (set jobs (m - 1) next) ks m (row + 1) r.next
    behind_more k = walk_more i h b.has_form b.after k

    pub behind_through : length s ≤ r.next → StopIs s (record { ending = Ok tt; row = row; at = at; job = next; count = m; jobs = set jobs (m - 1) next })
    behind_through k = walk_through i h b.has_form b.after k
