-- The jobs grow by a row: `GrowsBy`. Rows that are placed are placed by one list of jobs, and taking the last row off leaves rows that are placed.
use Prim.Native.Nat.{ℕ, zero, suc, ◌≤◌, ◌<◌}
use native.Mathlib.Omega.{arith}
use mathlib.Core.Path.{◌≡◌, refl, sym, ap, subst, ◌∙◌}
use mathlib.Core.List.{List, [], ◌∷◌, ◌++◌, append_assoc}
use lib.ListN.{length, length-append}
use Rattle.arithmetic.proofs.Cases.{impossible}
use Rattle.rows.specs.Form.{BookRow}
use Rattle.kinds.specs.declared.Role.TheVariants.{Base, Scour, Clearance, Load}
use Rattle.book.specs.JobBook.{IsA, SameKey, River, dry, scoured, crossed, job, river_rows, LoadRows, no_load_row, load, is_dry, is_scoured, is_crossed, good, Jobs, none, ◌and◌, count, rows_of, Whole, no_whole, one_whole, Different, new_key}
use Rattle.book.specs.Beginning.{Shaped, no_job, one_more, Loaded, Placed}
use Rattle.csv_text.proofs.Lists.{not_empty, lasts}
use Rattle.book.proofs.Ends.{EmptyOrLast, empty, ended, ends}

-- whole jobs are those that rows may be placed in with no load row missing
pub whole_shaped : {js : Jobs} → Whole js → Shaped js × Loaded js
whole_shaped no_whole = (no_job, tt)
whole_shaped (one_whole w g l) = (one_more w g, l)

pub shaped_whole : {js : Jobs} → Shaped js → Loaded js → Whole js
shaped_whole no_job l = no_whole
shaped_whole (one_more w g) l = one_whole w g l

-- the jobs grow by a row
pub data GrowsBy : Jobs → BookRow → Jobs → Type 0 where
  starts : {js : Jobs} {r : BookRow} → Loaded js → IsA Base r → GrowsBy js r (js and job r dry [])
  scours : {js : Jobs} {b r : BookRow} → IsA Scour r → SameKey b r → GrowsBy (js and job b dry []) r (js and job b (scoured r) [])
  crosses : {js : Jobs} {b s r : BookRow} → IsA Clearance r → SameKey b r → GrowsBy (js and job b (scoured s) []) r (js and job b (crossed s r) [])
  bears : {js : Jobs} {b r : BookRow} {v : River} {ls : List BookRow} → IsA Load r → SameKey b r → length ls < 16 → GrowsBy (js and job b v ls) r (js and job b v (ls ++ r ∷ []))

loads_more : {b r : BookRow} {ls : List BookRow} → LoadRows b ls → IsA Load r → SameKey b r → LoadRows b (ls ++ r ∷ [])
loads_more no_load_row k e = load k e no_load_row
loads_more (load h i ls) k e = load h i (loads_more ls k e)

loads_front : {b r : BookRow} (ls : List BookRow) → LoadRows b (ls ++ r ∷ []) → LoadRows b ls × IsA Load r × SameKey b r
loads_front [] (load h i ls) = (no_load_row, h, i)
loads_front (x ∷ xs) (load h i ls) =
    let w = loads_front xs ls in
    (load h i w.0, w.1, w.2)

-- a job with one load row more
grown : (js : Jobs) (b : BookRow) (v : River) (ls : List BookRow) (r : BookRow) → rows_of (js and job b v ls) ++ r ∷ [] ≡ rows_of (js and job b v (ls ++ r ∷ []))
grown js b v ls r = simp append_assoc

extended : {ts l k : List BookRow} (r : BookRow) → ts ≡ l → l ++ r ∷ [] ≡ k → ts ++ r ∷ [] ≡ k
extended r e f = ap (λ (t : List BookRow). t ++ r ∷ []) e ∙ f

pub extend : {ts : List BookRow} {js ks : Jobs} {r : BookRow} → Placed ts js → GrowsBy js r ks → Placed (ts ++ r ∷ []) ks
extend {r = r} p (starts {js} l k) = record { are = extended r p.are refl; shaped = one_more (shaped_whole p.shaped l) (good k is_dry no_load_row (omega arith)) }
extend {r = r} p (scours {js} {b} k e) = record { are = extended r p.are (append_assoc (rows_of js) (b ∷ []) (r ∷ [])); shaped = scoured_on p.shaped k e }
  where
    scoured_on : {js : Jobs} {b r : BookRow} → Shaped (js and job b dry []) → IsA Scour r → SameKey b r → Shaped (js and job b (scoured r) [])
    scoured_on (one_more s (good h v ls f)) k e = one_more s (good h (is_scoured k e) ls f)
extend {r = r} p (crosses {js} {b} {s} k e) = record { are = extended r p.are (append_assoc (rows_of js) (b ∷ s ∷ []) (r ∷ [])); shaped = crossed_on p.shaped k e }
  where
    crossed_on : {js : Jobs} {b s r : BookRow} → Shaped (js and job b (scoured s) []) → IsA Clearance r → SameKey b r → Shaped (js and job b (crossed s r) [])
    crossed_on (one_more s (good h (is_scoured a i) ls f)) k e = one_more s (good h (is_crossed a i k e) ls f)
extend {r = r} p (bears {js} {b} {v = v} {ls} k e n) = record { are = extended r p.are (grown js b v ls r); shaped = borne_on p.shaped k e n }
  where
    borne_on : {js : Jobs} {b r : BookRow} {v : River} {ls : List BookRow} → Shaped (js and job b v ls) → IsA Load r → SameKey b r → length ls < 16 → Shaped (js and job b v (ls ++ r ∷ []))
    borne_on {r = r} {ls = ls} (one_more s (good h v ms f)) k e n = one_more s (good h v (loads_more ms k e) (omega (arith, length-append ls (r ∷ []))))

-- the jobs before the last row
pub record Back (ts : List BookRow) (r : BookRow) (ks : Jobs) : Type 0 where
  pub jobs : Jobs
  pub placed : Placed ts jobs
  pub step : GrowsBy jobs r ks

-- where the rows of jobs end with x, what is before it is ts
back_to : {ts : List BookRow} {r x : BookRow} {ks : Jobs} (js : Jobs) → ts ++ r ∷ [] ≡ rows_of js ++ x ∷ [] → Shaped js → GrowsBy js x ks → Back ts r ks
back_to {ts} {r} {x} {ks} js e s p =
    let w = lasts ts (rows_of js) r x e in
    record { jobs = js; placed = record { are = w.0; shaped = s }; step = subst (λ (y : BookRow). GrowsBy js y ks) (sym w.1) p }

pub retract : {ts : List BookRow} {r : BookRow} (ks : Jobs) → Placed (ts ++ r ∷ []) ks → Back ts r ks
retract {ts} {r} none p = absurd (not_empty ts r p.are)
retract {ts} {r} (js and job b v ls) p = by_loads (ends ls) p.are p.shaped
  where
    by_river : (v : River) → ts ++ r ∷ [] ≡ rows_of (js and job b v []) → Shaped (js and job b v []) → Back ts r (js and job b v [])
    by_river dry e (one_more s (good h w ms f)) = let t = whole_shaped s in back_to js e t.0 (starts t.1 h)
    by_river (scoured a) e (one_more s (good h (is_scoured k i) ms f)) =
        back_to (js and job b dry []) (e ∙ sym (append_assoc (rows_of js) (b ∷ []) (a ∷ []))) (one_more s (good h is_dry ms f)) (scours k i)
    by_river (crossed a c) e (one_more s (good h (is_crossed k i m n) ms f)) =
        back_to (js and job b (scoured a) []) (e ∙ sym (append_assoc (rows_of js) (b ∷ a ∷ []) (c ∷ []))) (one_more s (good h (is_scoured k i) ms f)) (crosses m n)

    by_last : (fs : List BookRow) (x : BookRow) → ts ++ r ∷ [] ≡ rows_of (js and job b v (fs ++ x ∷ [])) → Shaped (js and job b v (fs ++ x ∷ [])) → Back ts r (js and job b v (fs ++ x ∷ []))
    by_last fs x e (one_more s (good h w ms f)) =
        let m = loads_front fs ms in
        let n = length-append fs (x ∷ []) in
        back_to (js and job b v fs) (e ∙ sym (grown js b v fs x)) (one_more s (good h w m.0 (omega arith))) (bears m.1 m.2 (omega arith))

    by_loads : {ls : List BookRow} → EmptyOrLast ls → ts ++ r ∷ [] ≡ rows_of (js and job b v ls) → Shaped (js and job b v ls) → Back ts r (js and job b v ls)
    by_loads (empty q) e s =
        subst (λ (l : List BookRow). Back ts r (js and job b v l)) (sym q) (by_river v (subst (λ (l : List BookRow). ts ++ r ∷ [] ≡ rows_of (js and job b v l)) q e) (subst (λ (l : List BookRow). Shaped (js and job b v l)) q s))
    by_loads (ended w) e s =
        subst (λ (l : List BookRow). Back ts r (js and job b v l)) (sym w.are) (by_last w.front w.end (subst (λ (l : List BookRow). ts ++ r ∷ [] ≡ rows_of (js and job b v l)) w.are e) (subst (λ (l : List BookRow). Shaped (js and job b v l)) w.are s))

pub step_one : {js ks ls : Jobs} {r : BookRow} → GrowsBy js r ks → GrowsBy js r ls → ks ≡ ls
step_one (starts l k) (starts m h) = refl
step_one (starts l k) (scours h e) = impossible cc
step_one (starts l k) (crosses h e) = impossible cc
step_one (starts l k) (bears h e n) = impossible cc
step_one (scours k e) (starts l h) = impossible cc
step_one (scours k e) (scours h f) = refl
step_one (scours k e) (bears h f n) = impossible cc
step_one (crosses k e) (starts l h) = impossible cc
step_one (crosses k e) (crosses h f) = refl
step_one (crosses k e) (bears h f n) = impossible cc
step_one (bears k e n) (starts l h) = impossible cc
step_one (bears k e n) (scours h f) = impossible cc
step_one (bears k e n) (crosses h f) = impossible cc
step_one (bears k e n) (bears h f m) = refl

-- no rows, no jobs
no_jobs : {ts : List BookRow} (js : Jobs) → Placed ts js → ts ≡ [] → js ≡ none
no_jobs none p e = refl
no_jobs (js and job b v ls) p e =
    let n = ap length (sym e ∙ p.are) in
    absurd (omega (arith, length-append (rows_of js) (b ∷ (river_rows v ++ ls))))

-- rows have one list of jobs
placed_same : (n : ℕ) {ts : List BookRow} {js ks : Jobs} → length ts ≤ n → Placed ts js → Placed ts ks → js ≡ ks
placed_same zero {ts} {js} {ks} h p q = by_end (ends ts)
  where
    by_end : EmptyOrLast ts → js ≡ ks
    by_end (empty e) = no_jobs js p e ∙ sym (no_jobs ks q e)
    by_end (ended w) = absurd (omega (arith, length-append w.front (w.end ∷ []), ap length w.are))
placed_same (suc n) {ts} {js} {ks} h p q = by_end (λ us ls ms h p q. placed_same n h p q) (ends ts)
  where
    by_end : ((us : List BookRow) (ls ms : Jobs) → length us ≤ n → Placed us ls → Placed us ms → ls ≡ ms) → EmptyOrLast ts → js ≡ ks
    by_end again (empty e) = no_jobs js p e ∙ sym (no_jobs ks q e)
    by_end again (ended w) =
        let a = retract js (subst (λ (l : List BookRow). Placed l js) w.are p) in
        let b = retract ks (subst (λ (l : List BookRow). Placed l ks) w.are q) in
        let m = length-append w.front (w.end ∷ []) in
        let k = ap length w.are in
        let e = again w.front a.jobs b.jobs (omega arith) a.placed b.placed in
        step_one (subst (λ (l : Jobs). GrowsBy l w.end js) e a.step) b.step

pub placed_one : {ts : List BookRow} {js ks : Jobs} → Placed ts js → Placed ts ks → js ≡ ks
placed_one {ts} p q = placed_same (length ts) (omega arith) p q

-- a row is placed behind rows that are placed exactly if the jobs grow by it
pub grows : {ts : List BookRow} {js ks : Jobs} {r : BookRow} → Placed ts js → Placed (ts ++ r ∷ []) ks → GrowsBy js r ks
grows {ks = ks} {r = r} p q =
    let b = retract ks q in
    subst (λ (l : Jobs). GrowsBy l r ks) (placed_one b.placed p) b.step

-- what grows by a row had no more jobs before, and no key twice
pub step_count : {js ks : Jobs} {r : BookRow} → GrowsBy js r ks → count js ≤ count ks
step_count (starts l k) = omega arith
step_count (scours k e) = omega arith
step_count (crosses k e) = omega arith
step_count (bears k e n) = omega arith

-- that the keys differ does not hang on the river and the load rows of the last job
pub rebased : {js : Jobs} {b : BookRow} {v w : River} {ls ms : List BookRow} → Different (js and job b v ls) → Different (js and job b w ms)
rebased (new_key d u) = new_key d u

pub step_keys : {js ks : Jobs} {r : BookRow} → GrowsBy js r ks → Different ks → Different js
step_keys (starts l k) (new_key d u) = d
step_keys (scours k e) d = rebased d
step_keys (crosses k e) d = rebased d
step_keys (bears k e n) d = rebased d
