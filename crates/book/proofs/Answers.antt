-- What bytes say is one thing, and a book is accepted exactly if it is a job book.
-- The idea: a beginning of a beginning is a beginning, so there is one first row with which no job book begins.
use Prim.Native.Nat.{ℕ, ◌+◌, ◌≤◌, ◌<◌}
use native.Mathlib.Omega.{arith}
use mathlib.Core.Path.{◌≡◌, refl, sym, ap, subst, ◌∙◌}
use mathlib.Core.List.{List, [], ◌∷◌, ◌++◌, append_assoc, append-nil}
use lib.ListN.{length}
use native.Mathlib.Decide.{dec_lt}
use lib.Seq.{append_snoc}
use Rattle.arithmetic.proofs.Cases.{impossible, by_cases}
use Rattle.csv_text.specs.rfc4180.Rfc4180.{Cell, File, Readable}
use Rattle.csv_text.proofs.rfc4180.Unique.{file_unique}
use Rattle.csv_text.proofs.Lists.{level}
use Rattle.rows.specs.Form.{BookRow, Form}
use Rattle.rows.proofs.Forms.{form_one}
use Rattle.jobs.specs.declared.Job.{Job}
use Rattle.book.specs.JobBook.{Jobs, count, Different, rows_of, Forms, no_form, form, JobBook}
use Rattle.book.specs.Beginning.{Loaded, Placed, Begins}
use Rattle.book.specs.counted.Places.{places}
use Rattle.book.specs.Values.{values}
use Rattle.book.specs.Says.{BookTold, given, refused, formless, misplaced, surplus, reused, Bad, FirstBad, Unfinished, BookSays, too_long, not_csv, bad_row, unfinished, book}
use Rattle.book.specs.Reading.{count_told, book_told, HeldIn, BookIs, CountIs}
use Rattle.rows.specs.refusals.Numbers.{refusal_number}
use Rattle.rows.proofs.refusals.Numbers.{number_one}
use Rattle.book.specs.declared.counted.Refused.{Refused}
use Rattle.std.specs.Prelude.{Result, Ok, Err, take}
use Rattle.book.specs.declared.counted.Book.{Book}
use Rattle.book.proofs.Steps.{whole_shaped, shaped_whole, retract, placed_one, step_count, step_keys}

forms_one : {css : List (List Cell)} {rs qs : List BookRow} → Forms css rs → Forms css qs → rs ≡ qs
forms_one no_form no_form = refl
forms_one (form {r = r} f fs) (form {r = q} g gs) =
    let a = form_one f g in
    let b = forms_one fs gs in
    cc

pub begins_one : {css : List (List Cell)} {rs qs : List BookRow} {js ks : Jobs} → Begins css rs js → Begins css qs ks → js ≡ ks
begins_one {js = js} {ks = ks} b c = placed_one b.placed (subst (λ (l : List BookRow). Placed l ks) (sym (forms_one b.forms c.forms)) c.placed)

-- the last of some forms
record Cut (css : List (List Cell)) (cs : List Cell) (rs : List BookRow) : Type 0 where
  front : List BookRow
  last : BookRow
  are : rs ≡ front ++ last ∷ []
  forms : Forms css front
  form : Form cs last

cut : (css : List (List Cell)) (cs : List Cell) {rs : List BookRow} → Forms (css ++ cs ∷ []) rs → Cut css cs rs
cut [] cs (form {r = r} f no_form) = record { front = []; last = r; are = refl; forms = no_form; form = f }
cut (c ∷ css) cs (form {r = r} f fs) =
    let w = cut css cs fs in
    record { front = r ∷ w.front; last = w.last; are = ap (λ (l : List BookRow). r ∷ l) w.are; forms = form f w.forms; form = w.form }

record Begun (css : List (List Cell)) : Type 0 where
  typed : List BookRow
  jobs : Jobs
  begins : Begins css typed jobs

-- one row less
less : (css : List (List Cell)) (cs : List Cell) → Begun (css ++ cs ∷ []) → Begun css
less css cs b =
    let w = cut css cs b.begins.forms in
    let k = retract b.jobs (subst (λ (l : List BookRow). Placed l b.jobs) w.are b.begins.placed) in
    let n = step_count k.step in
    let m = b.begins.few in
    record { typed = w.front; jobs = k.jobs; begins = record { forms = w.forms; placed = k.placed; few = omega arith; different = step_keys k.step b.begins.different } }

-- a beginning of a beginning
shorter : (os bs : List (List Cell)) → Begun (os ++ bs) → Begun os
shorter os [] b = rw append-nil at b
shorter os (x ∷ bs) b = less os x (shorter (os ++ x ∷ []) bs (rw append_assoc b))

module _ (ts : List BookRow) {cs : List Cell} where
  -- a row has one form, so it has one place, and its jobs are the same
  moved : {r q : BookRow} {ks : Jobs} → Form cs r → Form cs q → Placed (ts ++ q ∷ []) ks → Placed (ts ++ r ∷ []) ks
  moved {ks = ks} f g p = subst (λ (x : BookRow). Placed (ts ++ x ∷ []) ks) (form_one g f) p

  jobs_one : {r q : BookRow} {js ks : Jobs} → Form cs r → Form cs q → Placed (ts ++ r ∷ []) js → Placed (ts ++ q ∷ []) ks → js ≡ ks
  jobs_one f g p q = placed_one p (moved f g q)

  -- no job book begins with rows of which the last is bad
  not_with : {why : ℕ} {r : BookRow} {ks : Jobs} → Bad ts cs why → Form cs r → Placed (ts ++ r ∷ []) ks → count ks ≤ 64 → Different ks → ⊥
  not_with {r = r} (formless h) g p n d = h r g
  not_with {ks = ks} (misplaced f h) g p n d = h ks (moved f g p)
  not_with (surplus f q m) g p n d = let e = jobs_one f g q p in omega (arith, ap count e)
  not_with (reused f q m h) g p n d = h (subst Different (sym (jobs_one f g q p)) d)

  stops : {css : List (List Cell)} {js : Jobs} {why : ℕ} → Begins css ts js → Bad ts cs why → Begun (css ++ cs ∷ []) → ⊥
  stops {css} b h u =
      let w = cut css cs u.begins.forms in
      let e = forms_one b.forms w.forms in
      let p = subst (λ (l : List BookRow). Placed (l ++ w.last ∷ []) u.jobs) (sym e) (subst (λ (l : List BookRow). Placed l u.jobs) w.are u.begins.placed) in
      not_with h w.form p u.begins.few u.begins.different

  -- a bad row is bad in one way
  bad_one : {why na : ℕ} → Bad ts cs why → Bad ts cs na → why ≡ na
  bad_one (formless h) (formless k) = refl
  bad_one (formless h) (misplaced {r} g k) = absurd (h r g)
  bad_one (formless h) (surplus {r} g q n) = absurd (h r g)
  bad_one (formless h) (reused {r} g q n k) = absurd (h r g)
  bad_one (misplaced {r} f h) (formless k) = absurd (k r f)
  bad_one (misplaced f h) (misplaced g k) = refl
  bad_one (misplaced f h) (surplus {js = ks} g q n) = absurd (h ks (moved f g q))
  bad_one (misplaced f h) (reused {js = ks} g q n k) = absurd (h ks (moved f g q))
  bad_one (surplus {r} f p m) (formless k) = absurd (k r f)
  bad_one (surplus {js = js} f p m) (misplaced g k) = absurd (k js (moved g f p))
  bad_one (surplus f p m) (surplus g q n) = refl
  bad_one (surplus f p m) (reused g q n k) = absurd (omega (arith, ap count (jobs_one f g p q)))
  bad_one (reused {r} f p m h) (formless k) = absurd (k r f)
  bad_one (reused {js = js} f p m h) (misplaced g k) = absurd (k js (moved g f p))
  bad_one (reused f p m h) (surplus g q n) = absurd (omega (arith, ap count (jobs_one f g p q)))
  bad_one (reused f p m h) (reused g q n k) = refl

-- two places in one list: the longer beginning has the shorter one's next element
record Beyond {A : Type 0} (os : List A) (x : A) (cs : List A) : Type 0 where
  mid : List A
  are : cs ≡ os ++ x ∷ mid

beyond : {A : Type 0} (os cs bs ds : List A) (x y : A) → os ++ x ∷ bs ≡ cs ++ y ∷ ds → length os < length cs → Beyond os x cs
beyond [] [] bs ds x y e h = absurd (omega arith)
beyond [] (c ∷ cs) bs ds x y e h = record { mid = cs; are = cc }
beyond (a ∷ os) [] bs ds x y e h = absurd (omega arith)
beyond (a ∷ os) (c ∷ cs) bs ds x y e h =
    let t : os ++ x ∷ bs ≡ cs ++ y ∷ ds = cc in
    let w = beyond os cs bs ds x y t (omega arith) in
    let q = w.are in
    record { mid = w.mid; are = cc }

begun_by : {css : List (List Cell)} {rs : List BookRow} {js : Jobs} → Begins css rs js → Begun css
begun_by {rs = rs} {js = js} b = record { typed = rs; jobs = js; begins = b }

-- a bad row, and rows that go on beyond it, with which a job book begins
not_beyond : {why : ℕ} {rows css : List (List Cell)} {n : ℕ} (f : FirstBad why rows n) → Beyond f.at.before f.row css → Begun css → ⊥
not_beyond f w b =
    let v = subst Begun (w.are ∙ sym (append_snoc f.at.before f.row w.mid)) b in
    stops f.typed f.begins f.bad (shorter (f.at.before ++ f.row ∷ []) w.mid v)

none_begun : {why : ℕ} {rows : List (List Cell)} {n : ℕ} (f : FirstBad why rows n) → Begun rows → ⊥
none_begun f b = not_beyond f (record { mid = f.at.behind; are = f.at.are }) b

first_one : {why na : ℕ} {rows : List (List Cell)} {n m : ℕ} → FirstBad why rows n → FirstBad na rows m → (why ≡ na) × (n ≡ m)
first_one {na = na} f g =
    let p = f.at in
    let q = g.at in
    let both : p.before ++ f.row ∷ p.behind ≡ q.before ++ g.row ∷ q.behind = sym p.are ∙ q.are in
    by_cases (dec_lt (length p.before) (length q.before))
    (λ a. absurd (not_beyond f (beyond p.before q.before p.behind q.behind f.row g.row both a) (begun_by g.begins)))
    (λ a.
    by_cases (dec_lt (length q.before) (length p.before))
    (λ b. absurd (not_beyond g (beyond q.before p.before q.behind p.behind g.row f.row (sym both) b) (begun_by f.begins)))
    (λ b.
    let w = level p.before q.before p.behind q.behind f.row g.row both (omega arith) in
    let x = p.number in
    let y = q.number in
    let u = forms_one f.begins.forms (subst (λ (c : List (List Cell)). Forms c g.typed) (sym w.0) g.begins.forms) in
    let k = subst (λ (t : List BookRow). Bad t f.row na) (sym u) (subst (λ (c : List Cell). Bad g.typed c na) (sym w.1) g.bad) in
    (bad_one f.typed f.bad k, omega (arith, ap length w.0))))

-- what the rows of a text say, by what a job book may begin with
data RowsSay (rows : List (List Cell)) (t : BookTold) : Type 0 where
  bad : {why n : ℕ} → FirstBad why rows n → t ≡ refused why n → RowsSay rows t
  lacking : Unfinished rows → t ≡ refused 4 (length rows + 1) → RowsSay rows t
  all : {rs : List BookRow} {js : Jobs} → Begins rows rs js → Loaded js → t ≡ given (count js) (values js) → RowsSay rows t

rows_one : {rows : List (List Cell)} {t u : BookTold} → RowsSay rows t → RowsSay rows u → t ≡ u
rows_one (bad f p) (bad g q) =
    let w = first_one f g in
    let a = w.0 in
    let b = w.1 in
    p ∙ (cc) ∙ sym q
rows_one (bad f p) (lacking u q) = absurd (none_begun f (begun_by u.begins))
rows_one (bad f p) (all b l q) = absurd (none_begun f (begun_by b))
rows_one (lacking u p) (bad f q) = absurd (none_begun f (begun_by u.begins))
rows_one (lacking u p) (lacking v q) = p ∙ sym q
rows_one (lacking u p) (all b l q) = absurd (u.missing (subst Loaded (begins_one b u.begins) l))
rows_one (all b l p) (bad f q) = absurd (none_begun f (begun_by b))
rows_one (all b l p) (lacking u q) = absurd (u.missing (subst Loaded (begins_one b u.begins) l))
rows_one (all b l p) (all c k q) = let e = begins_one b c in p ∙ (cc) ∙ sym q

-- a job book is what a job book begins with, with no load row missing
pub book_begins : {s : List ℕ} {js : Jobs} (b : JobBook s js) → Begins b.rows b.typed js
book_begins b = record { forms = b.forms; placed = record { are = b.parts; shaped = (whole_shaped b.each).0 }; few = b.few; different = b.keys }

pub begins_book : {s : List ℕ} {rows : List (List Cell)} {rs : List BookRow} {js : Jobs} → length s ≤ 65536 → File s rows → Begins rows rs js → Loaded js → JobBook s js
begins_book {rows = rows} {rs} n q b l =
    record { size = n; rows = rows; text = q; typed = rs; forms = b.forms; parts = b.placed.are; each = shaped_whole b.placed.shaped l; few = b.few; keys = b.different }

-- what the bytes say, by size, by RFC 4180, and by the rows
data Sorted (s : List ℕ) (t : BookTold) : Type 0 where
  long : 65536 < length s → t ≡ refused 1 0 → Sorted s t
  other : length s ≤ 65536 → (Readable s → ⊥) → t ≡ refused 2 0 → Sorted s t
  text : {rows : List (List Cell)} → length s ≤ 65536 → File s rows → RowsSay rows t → Sorted s t

sorted : {s : List ℕ} {t : BookTold} → BookSays s t → Sorted s t
sorted (too_long h p) = long h p
sorted (not_csv h n p) = other h n p
sorted (bad_row h q f p) = text h q (bad f p)
sorted (unfinished h q u p) = text h q (lacking u p)
sorted (book b p) = text b.size b.text (all (book_begins b) (whole_shaped b.each).1 p)

sorted_one : {s : List ℕ} {t u : BookTold} → Sorted s t → Sorted s u → t ≡ u
sorted_one (long h p) (long k q) = p ∙ sym q
sorted_one (long h p) (other k n q) = absurd (omega arith)
sorted_one (long h p) (text k f r) = absurd (omega arith)
sorted_one (other h n p) (long k q) = absurd (omega arith)
sorted_one (other h n p) (other k m q) = p ∙ sym q
sorted_one (other h n p) (text k f r) = absurd (n (record { rows = _; reading = f }))
sorted_one (text h f r) (long k q) = absurd (omega arith)
sorted_one (text h f r) (other k n q) = absurd (n (record { rows = _; reading = f }))
sorted_one {t = t} (text h f r) (text k g u) = rows_one (subst (λ (x : List (List Cell)). RowsSay x t) (file_unique f g refl) r) u

-- bytes say one thing
pub book_says_one : {s : List ℕ} {t u : BookTold} → BookSays s t → BookSays s u → t ≡ u
book_says_one p q = sorted_one (sorted p) (sorted q)

-- a job book has one reading: its rows with their cells, its jobs, and what its rows mean
pub cells_one : {s : List ℕ} {js ks : Jobs} (b : JobBook s js) (c : JobBook s ks) → b.rows ≡ c.rows
cells_one b c = file_unique b.text c.text refl

pub book_one : {s : List ℕ} {js ks : Jobs} → JobBook s js → JobBook s ks → js ≡ ks
book_one {ks = ks} b c = begins_one (book_begins b) (subst (λ (x : List (List Cell)). Begins x c.typed ks) (cells_one c b) (book_begins c))

pub reading_one : {s : List ℕ} {js ks : Jobs} (b : JobBook s js) (c : JobBook s ks) → b.typed ≡ c.typed
reading_one b c = b.parts ∙ ap rows_of (book_one b c) ∙ sym c.parts

-- a book is accepted with these jobs exactly if they are those of the job book that the bytes are
pub record AcceptedBook (s : List ℕ) (n : ℕ) (vs : List Job) : Type 0 where
  pub jobs : Jobs
  pub book : JobBook s jobs
  pub many : n ≡ count jobs
  pub are : vs ≡ values jobs

accepted : {s : List ℕ} {t : BookTold} {n : ℕ} {vs : List Job} → BookSays s t → t ≡ given n vs → AcceptedBook s n vs
accepted (too_long h p) e = impossible cc
accepted (not_csv h m p) e = impossible cc
accepted (bad_row h q f p) e = impossible cc
accepted (unfinished h q u p) e = impossible cc
accepted (book {js} b p) e = record { jobs = js; book = b; many = cc; are = cc }

pub read_exactly : {s : List ℕ} {n : ℕ} {vs : List Job} → (BookSays s (given n vs) → AcceptedBook s n vs) × (AcceptedBook s n vs → BookSays s (given n vs))
read_exactly = (λ p. accepted p refl, λ a. let m = a.many in let e = a.are in book a.book (cc))

-- and refused exactly if it is none
pub refused_none : {s : List ℕ} {n row : ℕ} → BookSays s (refused n row) → (js : Jobs) → JobBook s js → ⊥
refused_none p js b = let e = book_says_one p (book b refl) in impossible cc

-- what `count_jobs` and `read_book` promise is met by one answer only
refused_same : (r q : Refused) → refusal_number r.why ≡ refusal_number q.why → r.row ≡ q.row → r ≡ q
refused_same r q e l = let w = number_one r.why q.why e in λ i. record { why = w i; row = l i }

pub count_told_one : (a b : Result ℕ Refused) (js ks : List Job) → count_told a js ≡ count_told b ks → a ≡ b
count_told_one (Ok n) (Ok m) js ks e = cc
count_told_one (Ok n) (Err r) js ks e = impossible cc
count_told_one (Err r) (Ok n) js ks e = impossible cc
count_told_one (Err r) (Err q) js ks e =
    let w : refusal_number r.why ≡ refusal_number q.why = cc in
    let l : r.row ≡ q.row = cc in
    ap Err (refused_same r q w l)

pub count_one : {s : List ℕ} {a b : Result ℕ Refused} → CountIs s a → CountIs s b → a ≡ b
count_one {a = a} {b} p q = count_told_one a b p.jobs q.jobs (book_says_one p.says q.says)

pub book_is_one : {s : List ℕ} (a b : Result Book Refused) → BookIs s a → BookIs s b → a ≡ b
book_is_one a b p q = by a b p.held q.held (book_says_one p.says q.says)
  where
    by : (a b : Result Book Refused) → HeldIn a → HeldIn b → book_told a ≡ book_told b → a ≡ b
    by (Ok x) (Ok y) h k e =
        let c : x.count ≡ y.count = cc in
        let t : take x.count x.jobs ≡ take y.count y.jobs = cc in
        let j : x.jobs ≡ y.jobs = h ∙ ap places t ∙ sym k in
        λ i. Ok (record { count = c i; jobs = j i })
    by (Ok x) (Err r) h k e = impossible cc
    by (Err r) (Ok x) h k e = impossible cc
    by (Err r) (Err q) h k e =
        let w : refusal_number r.why ≡ refusal_number q.why = cc in
        let l : r.row ≡ q.row = cc in
        ap Err (refused_same r q w l)
