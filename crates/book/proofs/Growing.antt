-- Placing on values and on the book's rows are one: the last job's value takes a row exactly if the jobs grow by it, and then to the same value.
use Prim.Native.Nat.{suc, ◌+◌, ◌-◌, ◌<◌}
use native.Mathlib.Omega.{arith}
use mathlib.Core.Path.{◌≡◌, refl, sym, ap, subst}
use mathlib.Core.Logic.{inl, inr}
use mathlib.Core.List.{List, [], ◌∷◌, ◌++◌}
use lib.ListN.{length, set, replicate, length-append}
use lib.Seq.{set_at, append_snoc}
use Rattle.arithmetic.proofs.Cases.{impossible}
use Rattle.kinds.specs.Table.{role}
use Rattle.kinds.specs.declared.Role.{Role}
use Rattle.kinds.specs.declared.Role.TheVariants.{Base, Scour, Clearance, Load}
use Rattle.kinds.specs.declared.Row.{Row}
use Rattle.rows.specs.Form.{BookRow}
use Rattle.rows.specs.keys.Keyed.{no_row}
use Rattle.jobs.specs.stages.Fits.{Fits}
use Rattle.jobs.specs.Place.{InPlace, with_row, grown}
use Rattle.jobs.specs.declared.Job.{Job}
use Rattle.jobs.specs.declared.stages.Stage.TheVariants.{Unbegun}
use Rattle.book.specs.JobBook.{River, dry, scoured, crossed, job, Jobs, none, ◌and◌}
use Rattle.book.specs.Beginning.{Loaded}
use Rattle.book.specs.Values.{stage_of, scour_of, clearance_of, load_rows}
use Rattle.book.specs.steps.Kept.{last_value}
use Rattle.book.proofs.Steps.{GrowsBy, starts, scours, crosses, bears}

-- the jobs with one row more, of which the last has the value that the row's taking gives
pub record Grown (js : Jobs) (r : BookRow) (next : Job) : Type 0 where
  pub jobs : Jobs
  pub step : GrowsBy js r jobs
  pub is : last_value jobs ≡ next

pub never_unbegun : (v : River) → stage_of v ≡ Unbegun → ⊥
never_unbegun dry e = impossible cc
never_unbegun (scoured s) e = impossible cc
never_unbegun (crossed s c) e = impossible cc

load_rows_more : (ls : List BookRow) (r : BookRow) → load_rows (ls ++ r ∷ []) ≡ load_rows ls ++ r.keyed.row ∷ []
load_rows_more [] r = refl
load_rows_more (x ∷ ls) r = ap (λ (l : List Row). x.keyed.row ∷ l) (load_rows_more ls r)

load_rows_many : (ls : List BookRow) → length (load_rows ls) ≡ length ls
load_rows_many [] = refl
load_rows_many (x ∷ ls) = ap suc (load_rows_many ls)

-- the loads with one more in the first blank place
added : (ls : List BookRow) (r : BookRow) → length ls < 16
    → load_rows (ls ++ r ∷ []) ++ replicate (16 - length (ls ++ r ∷ [])) no_row.row ≡ set (load_rows ls ++ replicate (16 - length ls) no_row.row) (length ls) r.keyed.row
added ls r h =
    let n : 16 - length ls ≡ suc (16 - (length ls + 1)) = omega arith in
    let m : length (ls ++ r ∷ []) ≡ length ls + 1 = length-append ls (r ∷ []) in
    sym
    (rw (n, m, set_at (load_rows ls) no_row.row (replicate (16 - (length ls + 1)) no_row.row) r.keyed.row (length ls) (load_rows_many ls), load_rows_more, append_snoc))

abbrev TakenAs : Role → Jobs → BookRow → Type 0
TakenAs x js r = role r.keyed.row.kind ≡ x → Fits x (last_value js).stage (last_value js).count ((last_value js).key ≡ r.keyed.key) → Grown js r (with_row x (last_value js) r.keyed)

takes_base : (js : Jobs) (r : BookRow) → TakenAs Base js r
takes_base none r e w = record { jobs = none and job r dry []; step = starts tt e; is = refl }
takes_base (js and job b v ls) r e (inl h) = absurd (never_unbegun v h)
takes_base (js and job b v ls) r e (inr h) = record { jobs = js and job b v ls and job r dry []; step = starts h e; is = refl }

takes_scour : (js : Jobs) (r : BookRow) → TakenAs Scour js r
takes_scour none r e w = let h = w.0 in impossible cc
takes_scour (js and job b dry []) r e w = record { jobs = js and job b (scoured r) []; step = scours e (record { same = w.2 }); is = refl }
takes_scour (js and job b dry (x ∷ ls)) r e w = absurd (let h = w.1 in omega arith)
takes_scour (js and job b (scoured s) ls) r e w = let h = w.0 in impossible cc
takes_scour (js and job b (crossed s c) ls) r e w = let h = w.0 in impossible cc

takes_clearance : (js : Jobs) (r : BookRow) → TakenAs Clearance js r
takes_clearance none r e w = let h = w.0 in impossible cc
takes_clearance (js and job b dry ls) r e w = let h = w.0 in impossible cc
takes_clearance (js and job b (scoured s) []) r e w = record { jobs = js and job b (crossed s r) []; step = crosses e (record { same = w.2 }); is = refl }
takes_clearance (js and job b (scoured s) (x ∷ ls)) r e w = absurd (let h = w.1 in omega arith)
takes_clearance (js and job b (crossed s c) ls) r e w = let h = w.0 in impossible cc

takes_load : (js : Jobs) (r : BookRow) → TakenAs Load js r
takes_load none r e w = absurd (w.0 refl)
takes_load (js and job b v ls) r e w =
    let n = length-append ls (r ∷ []) in
    let l = added ls r w.1 in
    record {
      jobs = js and job b v (ls ++ r ∷ []);
      step = bears e (record { same = w.2 }) w.1;
      is = λ i. record {
        stage = stage_of v;
        key = b.keyed.key;
        base = b.keyed.row.numbers;
        scour = scour_of v;
        clearance = clearance_of v;
        count = n i;
        loads = l i;
      };
    }

takes : (x : Role) (js : Jobs) (r : BookRow) → TakenAs x js r
takes Base = takes_base
takes Scour = takes_scour
takes Clearance = takes_clearance
takes Load = takes_load

-- a row that the value takes
pub place_grows : (js : Jobs) (r : BookRow) → InPlace (last_value js) r.keyed → Grown js r (grown (last_value js) r.keyed)
place_grows js r w = takes (role r.keyed.row.kind) js r refl w

ready : (js : Jobs) (same : Type 0) → Loaded js → Fits Base (last_value js).stage (last_value js).count same
ready none same l = inl refl
ready (js and job b v ls) same l = inr l

in_role : (js : Jobs) (r : BookRow) (x : Role) → role r.keyed.row.kind ≡ x → Fits x (last_value js).stage (last_value js).count ((last_value js).key ≡ r.keyed.key) → InPlace (last_value js) r.keyed
in_role js r x e w = subst (λ (y : Role). Fits y (last_value js).stage (last_value js).count ((last_value js).key ≡ r.keyed.key)) (sym e) w

-- and the other way round
pub step_place : {js ks : Jobs} {r : BookRow} → GrowsBy js r ks → InPlace (last_value js) r.keyed
step_place (starts {js} {r} l k) = in_role js r Base k (ready js ((last_value js).key ≡ r.keyed.key) l)
step_place (scours {js} {b} {r} k e) = in_role (js and job b dry []) r Scour k (refl, refl, e.same)
step_place (crosses {js} {b} {s} {r} k e) = in_role (js and job b (scoured s) []) r Clearance k (refl, refl, e.same)
step_place (bears {js} {b} {r} {v} {ls} k e n) = in_role (js and job b v ls) r Load k (never_unbegun v, n, e.same)
