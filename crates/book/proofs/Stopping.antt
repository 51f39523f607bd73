-- Where the walk over the rows stopped says what the bytes say: the jobs; or a row's number, and the refusal for it.
use Prim.Native.Nat.{ℕ, ◌+◌, ◌≤◌}
use native.Mathlib.Omega.{arith}
use mathlib.Core.Path.{◌≡◌, refl, sym, ap, subst, ◌∙◌}
use mathlib.Core.List.{List, [], ◌∷◌, ◌++◌}
use lib.ListN.{length, take}
use lib.Seq.{take_at}
use Rattle.arithmetic.proofs.Cases.{impossible}
use Rattle.kinds.specs.declared.Role.TheVariants.{Base}
use Rattle.rows.specs.Form.{BookRow}
use Rattle.rows.specs.refusals.Numbers.{refusal_number}
use Rattle.rows.specs.declared.refusals.Refusal.{Refusal}
use Rattle.jobs.specs.Place.{InPlace}
use Rattle.jobs.specs.declared.Job.{Job}
use Rattle.book.specs.JobBook.{IsA, Jobs, none, ◌and◌, job, dry, count, JobBook, Different, new_key, Used}
use Rattle.book.specs.Beginning.{Loaded, Placed}
use Rattle.book.specs.counted.Places.{places}
use Rattle.book.specs.Values.{values}
use Rattle.book.specs.Says as says
use Rattle.book.specs.Says.{BookSays, refused, bad_row, unfinished, book}
use Rattle.book.specs.Reading.{BookIs}
use Rattle.book.specs.steps.Kept.{last_value}
use Rattle.book.specs.steps.Stop.{Reached, StopIs, through, formless, misplaced, surplus, reused}
use Rattle.book.specs.declared.counted.Refused.{Refused}
use Rattle.book.specs.declared.counted.Book.{Book}
use Rattle.std.specs.Prelude.{Ok, Err}
use Rattle.book.specs.declared.walk.Stop.{Stop}
use Rattle.book.proofs.Steps.{starts, extend, grows}
use Rattle.book.proofs.Answers.{begins_book}
use Rattle.book.proofs.Growing.{step_place}
use Rattle.book.proofs.Keeping.{values_many}

-- the last job's value says whether a load row is missing
pub lacks : (js : Jobs) → 1 ≤ count js → (last_value js).count ≡ 0 → Loaded js → ⊥
lacks none m e l = omega arith
lacks (js and job b v ls) m e l = omega arith

pub has_load : (js : Jobs) → 1 ≤ count js → ((last_value js).count ≡ 0 → ⊥) → Loaded js
has_load none m n = absurd (omega arith)
has_load (js and job b v ls) m n = omega arith

pub used_twice : {js : Jobs} {r : BookRow} → Used r js → Different (js and job r dry []) → ⊥
used_twice u (new_key d n) = n u

-- a B row behind jobs that are whole
pub base_placed : {rs : List BookRow} {js : Jobs} {r : BookRow} → Placed rs js → IsA Base r → Loaded js → Placed (rs ++ r ∷ []) (js and job r dry [])
base_placed p k l = extend p (starts l k)

-- an answer, from what it is told
pub refused_is : {s : List ℕ} (r : Refused) → BookSays s (refused (refusal_number r.why) r.row) → BookIs s (Err r)
refused_is r p = record { says = p; held = tt }

given_is : {s : List ℕ} {js : Jobs} (b : Book) → b.count ≡ count js → b.jobs ≡ places (values js) → JobBook s js → BookIs s (Ok b)
given_is {s} {js} b m e k =
    let t : take b.count b.jobs ≡ values js = ap (take b.count) e ∙ take_at (values js) _ b.count (values_many js ∙ sym m) in
    record { says = book k cc; held = e ∙ ap places (sym t) }

module _ {s : List ℕ} (t : Stop) (size : length s ≤ 65536) where
  first_bad : {why : ℕ} (b : Reached s t) → says.Bad b.typed b.this why → BookSays s (refused why t.row)
  first_bad b x =
      bad_row size b.text
      (record { row = b.this; at = record { before = b.passed; behind = b.behind; are = refl; number = b.number }; typed = b.typed; jobs = b.written; begins = b.begins; bad = x }) refl

  told_as : {v why : Refusal} → t.ending ≡ Err v → t.ending ≡ Err why → BookSays s (refused (refusal_number v) t.row) → BookSays s (refused (refusal_number why) t.row)
  told_as {v} {why} p q x =
      let e : v ≡ why = cc in
      subst (λ (w : Refusal). BookSays s (refused (refusal_number w) t.row)) e x

  -- at a bad row
  pub stop_refused : (why : Refusal) → t.ending ≡ Err why → StopIs s t → BookSays s (refused (refusal_number why) t.row)
  stop_refused why q (through p f b m n l c v j) = impossible cc
  stop_refused why q (formless p b h) = told_as p q (first_bad b (says.formless h))
  stop_refused why q (misplaced {r} p b f j h) =
      told_as p q (first_bad b (says.misplaced f (λ ks w. h (subst (λ (x : Job). InPlace x r.keyed) (sym j) (step_place (grows b.begins.placed w))))))
  stop_refused why q (surplus {r} p b f k l m) =
      let n = b.many in
      told_as p q (first_bad b (says.surplus f (base_placed b.begins.placed k l) (omega arith)))
  stop_refused why q (reused {r} p b f k l m u e) =
      let n = b.many in
      told_as p q (first_bad b (says.reused f (base_placed b.begins.placed k l) (omega arith) (used_twice u)))

  -- behind the last row, where a load row is missing
  pub stop_short : t.ending ≡ Ok tt → t.job.count ≡ 0 → StopIs s t → BookSays s (refused 4 (t.row + 1))
  stop_short q z (through {js = js} p f b m n l c v j) =
      unfinished size f (record { typed = _; jobs = js; begins = b; missing = lacks js m (sym (ap (λ (x : Job). x.count) j) ∙ z) }) (ap (λ (k : ℕ). refused 4 (k + 1)) n)
  stop_short q z (formless p b h) = impossible cc
  stop_short q z (misplaced p b f j h) = impossible cc
  stop_short q z (surplus p b f k l m) = impossible cc
  stop_short q z (reused p b f k l m u e) = impossible cc

  -- one past it fits
  pub stop_row : t.ending ≡ Ok tt → StopIs s t → t.row ≤ 65537
  stop_row q (through p f b m n l c v j) = l
  stop_row q (formless p b h) = impossible cc
  stop_row q (misplaced p b f j h) = impossible cc
  stop_row q (surplus p b f k l m) = impossible cc
  stop_row q (reused p b f k l m u e) = impossible cc

  -- and where none is
  pub stop_whole : t.ending ≡ Ok tt → (t.job.count ≡ 0 → ⊥) → StopIs s t → BookIs s (Ok (record { count = t.count; jobs = t.jobs }))
  stop_whole q z (through {js = js} p f b m n l o w j) =
      given_is (record { count = t.count; jobs = t.jobs }) o w (begins_book size f b (has_load js m (λ e. z (ap (λ (x : Job). x.count) j ∙ e))))
  stop_whole q z (formless p b h) = impossible cc
  stop_whole q z (misplaced p b f j h) = impossible cc
  stop_whole q z (surplus p b f i l m) = impossible cc
  stop_whole q z (reused p b f i l m u e) = impossible cc
