-- The values held for the jobs so far: their keys and the jobs themselves, in 64 places.
use Prim.Native.Nat.{ℕ, suc, ◌+◌, ◌-◌, ◌≤◌, ◌<◌}
use native.Mathlib.Decide.{dec_lt}
use native.Mathlib.Omega.{arith}
use mathlib.Core.Path.{◌≡◌, refl, sym, ap, subst, ◌∙◌}
use mathlib.Core.List.{List, [], ◌∷◌, ◌++◌}
use lib.ListN.{length, get_or, set, replicate, length-append, get_or-append}
use lib.Seq.{set_at, append_snoc, get_or_at}
use Rattle.arithmetic.proofs.Cases.{impossible, by_cases}
use Rattle.kinds.specs.declared.Role.TheVariants.{Base}
use Rattle.rows.specs.Form.{BookRow}
use Rattle.rows.specs.keys.Keyed.{no_row}
use Rattle.rows.specs.declared.keys.Key.{Key}
use Rattle.jobs.specs.Blank.{no_job}
use Rattle.jobs.specs.declared.Job.{Job}
use Rattle.book.specs.JobBook.{IsA, dry, job, base, Jobs, none, ◌and◌, count, Different, Used, last, before}
use Rattle.rows.specs.keys.Among.{void_key, Among}
use Rattle.book.specs.counted.Places.{in_places, places}
use Rattle.book.specs.Values.{job_value, values}
use Rattle.book.specs.steps.Kept.{last_value, keys_of, key_places}
use Rattle.book.proofs.Steps.{GrowsBy, starts, scours, crosses, bears, rebased}

-- a value in the first unused place, and a value in place of the last
module _ {A : Type 0} (blank : A) (l : List A) (h : length l < 64) where
  rest : 64 - length l ≡ suc (64 - (length l + 1))
  rest = omega arith

  pub places_more : (x : A) → set (in_places blank l) (length l) x ≡ in_places blank (l ++ x ∷ [])
  places_more x =
      rw (rest, length-append l (x ∷ []), set_at l blank (replicate (64 - (length l + 1)) blank) x (length l) refl, append_snoc)

  pub places_last : (x y : A) → set (in_places blank (l ++ x ∷ [])) (length l) y ≡ in_places blank (l ++ y ∷ [])
  places_last x y =
      rw (length-append l (x ∷ []), length-append l (y ∷ []), append_snoc l x, set_at l x (replicate (64 - (length l + 1)) blank) y (length l) refl, append_snoc)

pub keys_many : (js : Jobs) → length (keys_of js) ≡ count js
keys_many none = refl
keys_many (js and j) = length-append (keys_of js) ((base j).keyed.key ∷ []) ∙ (let h = keys_many js in omega arith)

pub values_many : (js : Jobs) → length (values js) ≡ count js
values_many none = refl
values_many (js and j) = length-append (values js) (job_value j ∷ []) ∙ (let h = values_many js in omega arith)

-- a key is used exactly if it is among those held
listed_used : (r : BookRow) (js : Jobs) (i : ℕ) → i < count js → get_or (keys_of js) i void_key ≡ r.keyed.key → Used r js
listed_used r none i h e = absurd (omega arith)
listed_used r (js and j) i h e =
    let m = keys_many js in
    by_cases (dec_lt i (count js))
    (λ y.
    let l : i < length (keys_of js) = omega arith in
    before (listed_used r js i y (sym (get_or-append (keys_of js) ((base j).keyed.key ∷ []) void_key i l) ∙ e)))
    (λ y.
    let l : length (keys_of js) ≡ i = omega arith in
    last (record { same = sym (get_or_at (keys_of js) (base j).keyed.key [] void_key i l) ∙ e }))

record Listed (k : Key) (l : List Key) : Type 0 where
  at : ℕ
  within : at < length l
  is : get_or l at void_key ≡ k

listed_more : {k : Key} {l : List Key} (m : List Key) → Listed k l → Listed k (l ++ m)
listed_more {k} {l} m w = record { at = w.at; within = (let h = w.within in omega (arith, length-append l m)); is = get_or-append l m void_key w.at w.within ∙ w.is }

used_listed : {r : BookRow} {js : Jobs} → Used r js → Listed r.keyed.key (keys_of js)
used_listed (last {js} {j} s) = record {
  at = length (keys_of js);
  within = omega (arith, length-append (keys_of js) ((base j).keyed.key ∷ []));
  is = get_or_at (keys_of js) (base j).keyed.key [] void_key (length (keys_of js)) refl ∙ s.same;
}
used_listed (before {js} {j} u) = listed_more ((base j).keyed.key ∷ []) (used_listed u)

module _ (js : Jobs) (n : ℕ) (ks : List Key) (many : n ≡ count js) (are : ks ≡ key_places (keys_of js)) (r : BookRow) where
  pub among_used : Among ks n r.keyed.key → Used r js
  among_used a =
      let h = a.within in
      let m = keys_many js in
      let l : a.at < length (keys_of js) = omega arith in
      listed_used r js a.at (omega arith)
      (sym (get_or-append (keys_of js) (replicate (64 - length (keys_of js)) no_row.key) void_key a.at l) ∙ ap (λ (l : List Key). get_or l a.at void_key) (sym are) ∙ a.is)

  pub used_among : Used r js → Among ks n r.keyed.key
  used_among u =
      let w = used_listed u in
      let h = w.within in
      let m = keys_many js in
      record {
        at = w.at;
        within = omega arith;
        is = ap (λ (l : List Key). get_or l w.at void_key) are ∙ get_or-append (keys_of js) (replicate (64 - length (keys_of js)) no_row.key) void_key w.at h ∙ w.is;
      }

-- the values held are those of the jobs
pub record Standing (js : Jobs) (n : ℕ) (ks : List Key) (vs : List Job) (last : Job) : Type 0 where
  pub many : n ≡ count js
  pub keys : ks ≡ key_places (keys_of js)
  pub jobs : vs ≡ places (values js)
  pub job : last ≡ last_value js

-- a row that starts a job
pub base_jobs : {js ks : Jobs} {r : BookRow} → IsA Base r → GrowsBy js r ks → ks ≡ js and job r dry []
base_jobs k (starts l h) = refl
base_jobs k (scours h e) = impossible cc
base_jobs k (crosses h e) = impossible cc
base_jobs k (bears h e n) = impossible cc

pub standing_starts : {js : Jobs} {n : ℕ} {ks : List Key} {vs : List Job} {last next : Job} (r : BookRow) (k : Key) → Standing js n ks vs last → n < 64 → k ≡ r.keyed.key → last_value (js and job r dry []) ≡ next
    → Standing (js and job r dry []) (n + 1) (set ks n k) (set vs n next) next
standing_starts {js} {n} {ks} {vs} {last} {next} r k w h e q =
    let m = w.many in
    let a : length (keys_of js) ≡ n = keys_many js ∙ sym m in
    let b : length (values js) ≡ n = values_many js ∙ sym m in
    record {
      many = omega arith;
      keys = ap (λ (l : List Key). set l n k) w.keys ∙ subst (λ (i : ℕ). set (key_places (keys_of js)) i k ≡ key_places (keys_of js ++ k ∷ [])) a (places_more no_row.key (keys_of js) (omega arith) k)
          ∙ ap (λ (x : Key). key_places (keys_of js ++ x ∷ [])) e;
      jobs = ap (λ (l : List Job). set l n next) w.jobs ∙ subst (λ (i : ℕ). set (places (values js)) i next ≡ places (values js ++ next ∷ [])) b (places_more no_job (values js) (omega arith) next)
          ∙ ap (λ (x : Job). places (values js ++ x ∷ [])) (sym q);
      job = sym q;
    }

-- a row that joins the last job: the jobs before it stay, and so do the keys
pub record JoinsLast (js ks : Jobs) : Type 0 where
  pub front : List Job
  pub was : values js ≡ front ++ last_value js ∷ []
  pub now : values ks ≡ front ++ last_value ks ∷ []
  pub many : count ks ≡ count js
  pub some : 1 ≤ count js
  pub keys : keys_of ks ≡ keys_of js
  pub different : Different js → Different ks

pub joins : {js ks : Jobs} {r : BookRow} → (IsA Base r → ⊥) → GrowsBy js r ks → JoinsLast js ks
joins n (starts l h) = absurd (n h)
joins n (scours {js} {b} {r} h e) = record { front = values js; was = refl; now = refl; many = refl; some = omega arith; keys = refl; different = rebased }
joins n (crosses {js} h e) = record { front = values js; was = refl; now = refl; many = refl; some = omega arith; keys = refl; different = rebased }
joins n (bears {js} h e m) = record { front = values js; was = refl; now = refl; many = refl; some = omega arith; keys = refl; different = rebased }

pub standing_joins : {js ks : Jobs} {n : ℕ} {keys : List Key} {vs : List Job} {last next : Job} → Standing js n keys vs last → n ≤ 64 → JoinsLast js ks → last_value ks ≡ next
    → Standing ks n keys (set vs (n - 1) next) next
standing_joins {js} {ks} {n} {keys} {vs} {last} {next} w h j q =
    let m = w.many in
    let s = j.some in
    let t = values_many js in
    let l = ap length j.was ∙ length-append j.front (last_value js ∷ []) in
    let f : length j.front ≡ n - 1 = omega arith in
    record {
      many = m ∙ sym j.many;
      keys = w.keys ∙ ap key_places (sym j.keys);
      jobs = ap (λ (l : List Job). set l (n - 1) next) (w.jobs ∙ ap places j.was)
          ∙ subst (λ (i : ℕ). set (places (j.front ++ last_value js ∷ [])) i next ≡ places (j.front ++ next ∷ [])) f (places_last no_job j.front (omega arith) (last_value js) next)
          ∙ ap (λ (x : Job). places (j.front ++ x ∷ [])) (sym q) ∙ ap places (sym j.now);
      job = sym q;
    }
