-- A job at a place of a book has a key, and the job as the book writes it is a good job with the value that stands there.
use Prim.Native.Nat.{ℕ, ◌+◌}
use mathlib.Core.Path.{◌≡◌, refl, sym, ap, subst, ◌∙◌}
use mathlib.Core.List.{List, [], ◌∷◌, ◌++◌, map, map-append}
use lib.ListN.{length-map}
use Rattle.csv_text.specs.rfc4180.Rfc4180.{Cell}
use Rattle.rows.specs.Form.{BookRow, Form}
use Rattle.jobs.specs.declared.Job.{Job}
use Rattle.book.specs.JobBook.{WrittenJob, job, Jobs, none, ◌and◌, job_rows, rows_of, GoodJob, Forms, no_form, form, Whole, no_whole, one_whole, JobBook}
use Rattle.book.specs.Values.{job_value, values}
use Rattle.printing.specs.Keys.{IsKey}
use Rattle.csv_text.specs.Nth.{Nth}
use Rattle.book.specs.SameJob.{listed}
use Rattle.demands.proofs.All as all

form_key : {cs : List Cell} {r : BookRow} → Form cs r → IsKey r.keyed.key
form_key f = record { member = f.ten.member.content; job = f.ten.job.content; member_named = f.member; job_named = f.job }

HasKey : BookRow → Type 0
HasKey r = IsKey r.keyed.key

HasJobKey : Job → Type 0
HasJobKey j = IsKey j.key

forms_keys : {css : List (List Cell)} {rs : List BookRow} → Forms css rs → all.All HasKey rs
unfolding HasKey
forms_keys no_form = all.none
forms_keys (form f fs) = all.more (form_key f) (forms_keys fs)

values_keys : (js : Jobs) → all.All HasKey (rows_of js) → all.All HasJobKey (values js)
unfolding HasKey HasJobKey
values_keys none p = all.none
values_keys (js and job b v ls) p = all.all_append (values_keys js (all.all_front (rows_of js) (job_rows (job b v ls)) p)) (all.more (all.all_first (all.all_behind (rows_of js) (job_rows (job b v ls)) p)) all.none)

pub job_key : {s : List ℕ} {js : Jobs} {n : ℕ} {j : Job} → JobBook s js → Nth (values js) n j → IsKey j.key
unfolding HasJobKey
job_key {js = js} b r = all.all_at (values_keys js (subst (all.All HasKey) b.parts (forms_keys b.forms))) r

wholes : {js : Jobs} → Whole js → all.All GoodJob (listed js)
wholes no_whole = all.none
wholes (one_whole w g l) = all.all_append (wholes w) (all.more g all.none)

pub good_job : {s : List ℕ} {js : Jobs} {n : ℕ} {j : WrittenJob} → JobBook s js → Nth (listed js) n j → GoodJob j
good_job b r = all.all_at (wholes b.each) r

values_listed : (js : Jobs) → values js ≡ map job_value (listed js)
values_listed none = refl
values_listed (js and j) = ap (λ (l : List Job). l ++ job_value j ∷ []) (values_listed js) ∙ sym (map-append job_value (listed js) (j ∷ []))

pub value_at : (js : Jobs) {n : ℕ} {j : WrittenJob} → Nth (listed js) n j → Nth (values js) n (job_value j)
value_at js {j = j} r = record {
  before = map job_value r.before;
  behind = map job_value r.behind;
  are = values_listed js ∙ ap (map job_value) r.are ∙ map-append job_value r.before (j ∷ r.behind);
  number = r.number ∙ ap (λ (k : ℕ). k + 1) (sym (length-map r.before job_value));
}
