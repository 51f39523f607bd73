-- The rows of a job: how many they are, where its S and its C row stand, and what every one of them has. No row but a load row is optional.
use mathlib.Core.Path.{◌≡◌, refl, sym, ap, subst, ◌∙◌}
use mathlib.Core.List.{List, [], ◌∷◌, ◌++◌}
use Prim.Native.Nat.{ℕ, zero, suc, ◌+◌, ◌≤◌, ◌<◌}
use native.Mathlib.Numerals.{add-one}
use native.Mathlib.Omega.{arith}
use lib.ListN.{length, take, drop, length-append, take-append-drop}
use lib.Seq.{length-take-le}
use Rattle.kinds.specs.declared.Kind.TheVariants.{B, S, C}
use Rattle.kinds.specs.declared.Numbers.{Numbers}
use Rattle.kinds.specs.declared.Row.{Row}
use Rattle.kinds.specs.classes.Classes.{class_of, optional}
use Rattle.kinds.specs.ranges.Range.{Ranged}
use Rattle.jobs.specs.declared.Job.{Job}
use Rattle.jobs.specs.declared.stages.Stage.{Stage}
use Rattle.jobs.specs.declared.stages.Stage.TheVariants.{Unbegun, Dry, Scoured, Crossed}
use Rattle.jobs.specs.stages.Rows.{HasScour, HasClearance}
use Rattle.loads.specs.LoadRows.{Every, optionals}
use Rattle.loads.specs.steps.Asking.{row_count}
use Rattle.loads.proofs.Answering.{first_rows}
use Rattle.loads.proofs.FirstRows.{optionals_more}
use Rattle.answer.specs.Rules.{load_rows_of, AllInRange}
use Rattle.job_faults.specs.First.{StandsAt}
use Rattle.job_faults.specs.JobRows.{row_of, river_rows, rows_in}
use Rattle.job_faults.specs.steps.Ahead.{ahead}
use Rattle.job_faults.proofs.Standing.{take_more}

-- ---- how many
pub river_many : (stage : Stage) (scour clearance : Numbers) → 1 + length (river_rows stage scour clearance) ≡ ahead stage
unfolding river_rows
river_many Unbegun s c = refl
river_many Dry s c = refl
river_many Scoured s c = refl
river_many Crossed s c = refl

pub load_many : (job : Job) (n : ℕ) → length job.loads ≡ 16 → n ≡ row_count job.count → n ≤ 16 → length (load_rows_of job) ≡ n
load_many job n whole e low =
    ap length (sym (first_rows job.loads job.count whole) ∙ ap (λ (m : ℕ). take m job.loads) (sym e)) ∙ length-take-le n job.loads (omega arith)

pub ahead_low : (stage : Stage) → ahead stage ≤ 3
ahead_low Unbegun = omega arith
ahead_low Dry = omega arith
ahead_low Scoured = omega arith
ahead_low Crossed = omega arith

-- how many load rows stand behind those before them
pub rows_split : (job : Job) → length (rows_in job) ≡ ahead job.stage + length (load_rows_of job)
rows_split job =
    let river = river_rows job.stage job.scour job.clearance in
    omega (arith, river_many job.stage job.scour job.clearance, length-append river (load_rows_of job))

pub rows_many : (job : Job) (n : ℕ) → length job.loads ≡ 16 → n ≡ row_count job.count → n ≤ 16 → ahead job.stage + n ≡ length (rows_in job)
rows_many job n whole e low =
    omega (arith, rows_split job, load_many job n whole e low)

pub first_few : (rows : List Row) (n : ℕ) → length (take n rows) ≤ length rows
first_few rows n = omega (arith, length-append (take n rows) (drop n rows), ap length (take-append-drop n rows))

-- at most 19
pub rows_few : (job : Job) → length job.loads ≡ 16 → length (rows_in job) ≤ 19
rows_few job whole = omega (arith, rows_split job, first_few job.loads job.count, ahead_low job.stage)

-- ---- where the S and the C row stand
pub scour_stands : (stage : Stage) (base scour clearance : Numbers) (loads : List Row) → HasScour stage → StandsAt (row_of B base ∷ (river_rows stage scour clearance ++ loads)) 1 (row_of S scour)
unfolding river_rows StandsAt
scour_stands Unbegun b s c loads has = absurd has
scour_stands Dry b s c loads has = absurd has
scour_stands Scoured b s c loads has = refl
scour_stands Crossed b s c loads has = refl

pub clearance_stands : (stage : Stage) (base scour clearance : Numbers) (loads : List Row) → HasClearance stage → StandsAt (row_of B base ∷ (river_rows stage scour clearance ++ loads)) 2 (row_of C clearance)
unfolding river_rows StandsAt
clearance_stands Unbegun b s c loads has = absurd has
clearance_stands Dry b s c loads has = absurd has
clearance_stands Scoured b s c loads has = absurd has
clearance_stands Crossed b s c loads has = refl

-- ---- where a load row stands
pub ahead_stands : (stage : Stage) (base scour clearance : Numbers) (loads : List Row) (i place : ℕ) (r : Row) → place ≡ ahead stage + i → StandsAt loads i r
    → StandsAt (row_of B base ∷ (river_rows stage scour clearance ++ loads)) place r
unfolding river_rows StandsAt
ahead_stands Unbegun b s c loads i zero r e x = absurd (omega arith)
ahead_stands Unbegun b s c loads i (suc k) r e x = let h : i ≡ k = omega arith in subst (λ (j : ℕ). StandsAt loads j r) h x
ahead_stands Dry b s c loads i zero r e x = absurd (omega arith)
ahead_stands Dry b s c loads i (suc k) r e x = let h : i ≡ k = omega arith in subst (λ (j : ℕ). StandsAt loads j r) h x
ahead_stands Scoured b s c loads i zero r e x = absurd (omega arith)
ahead_stands Scoured b s c loads i (suc zero) r e x = absurd (omega arith)
ahead_stands Scoured b s c loads i (suc (suc k)) r e x = let h : i ≡ k = omega arith in subst (λ (j : ℕ). StandsAt loads j r) h x
ahead_stands Crossed b s c loads i zero r e x = absurd (omega arith)
ahead_stands Crossed b s c loads i (suc zero) r e x = absurd (omega arith)
ahead_stands Crossed b s c loads i (suc (suc zero)) r e x = absurd (omega arith)
ahead_stands Crossed b s c loads i (suc (suc (suc k))) r e x = let h : i ≡ k = omega arith in subst (λ (j : ℕ). StandsAt loads j r) h x

-- before the load rows there is an S row behind the first, and a C row behind that
pub scour_ahead : (stage : Stage) → 1 < ahead stage → HasScour stage
scour_ahead Unbegun h = absurd (omega arith)
scour_ahead Dry h = absurd (omega arith)
scour_ahead Scoured h = tt
scour_ahead Crossed h = tt

pub clearance_ahead : (stage : Stage) → 2 < ahead stage → HasClearance stage
clearance_ahead Unbegun h = absurd (omega arith)
clearance_ahead Dry h = absurd (omega arith)
clearance_ahead Scoured h = absurd (omega arith)
clearance_ahead Crossed h = tt

-- ---- every row
module _ (P : Row → Type 0) where
  river_every : (stage : Stage) (scour clearance : Numbers) (loads : List Row) → (HasScour stage → P (row_of S scour)) → (HasClearance stage → P (row_of C clearance)) → Every P loads
      → Every P (river_rows stage scour clearance ++ loads)
  unfolding river_rows Every
  river_every Unbegun s c loads x y all = all
  river_every Dry s c loads x y all = all
  river_every Scoured s c loads x y all = (x tt, all)
  river_every Crossed s c loads x y all = (x tt, (y tt, all))

  record RiverAll (stage : Stage) (scour clearance : Numbers) (loads : List Row) : Type 0 where
    with_scour : HasScour stage → P (row_of S scour)
    with_clearance : HasClearance stage → P (row_of C clearance)
    with_loads : Every P loads

  river_all : (stage : Stage) (scour clearance : Numbers) (loads : List Row) → Every P (river_rows stage scour clearance ++ loads) → RiverAll stage scour clearance loads
  unfolding river_rows Every
  river_all Unbegun s c loads all = record { with_scour = λ has. absurd has; with_clearance = λ has. absurd has; with_loads = all }
  river_all Dry s c loads all = record { with_scour = λ has. absurd has; with_clearance = λ has. absurd has; with_loads = all }
  river_all Scoured s c loads all = record { with_scour = λ _. all.0; with_clearance = λ has. absurd has; with_loads = all.1 }
  river_all Crossed s c loads all = record { with_scour = λ _. all.0; with_clearance = λ _. all.1.0; with_loads = all.1.1 }

  module _ (job : Job) where
    pub rows_every : P (row_of B job.base) → (HasScour job.stage → P (row_of S job.scour)) → (HasClearance job.stage → P (row_of C job.clearance)) → Every P (load_rows_of job) → Every P (rows_in job)
    unfolding Every
    rows_every b s c all = (b, river_every job.stage job.scour job.clearance (load_rows_of job) s c all)

    pub loads_every : Every P (rows_in job) → Every P (load_rows_of job)
    unfolding Every
    loads_every all = (river_all job.stage job.scour job.clearance (load_rows_of job) all.1).with_loads

-- every number of every row is in its range, of the rows one by one
abbrev pub RowRanged : Row → Type 0
RowRanged row = Ranged row.kind row.numbers

module _ (job : Job) where
  pub ranged_rows : AllInRange job → Every RowRanged (rows_in job)
  ranged_rows all = rows_every RowRanged job all.rows.base all.rows.scour all.rows.clearance all.loads

  pub rows_ranged : Every RowRanged (rows_in job) → AllInRange job
  unfolding Every
  rows_ranged all =
      let r = river_all RowRanged job.stage job.scour job.clearance (load_rows_of job) all.1 in
      record { rows = record { base = all.0; scour = r.with_scour; clearance = r.with_clearance }; loads = r.with_loads }

-- ---- how many are optional
optionals_append : (xs ys : List Row) → optionals (xs ++ ys) ≡ optionals xs + optionals ys
unfolding optionals
optionals_append [] ys = omega arith
optionals_append (x ∷ xs) ys = omega (arith, optionals_append xs ys)

pub optionals_first : (rows : List Row) (i : ℕ) → optionals (take i rows) ≤ optionals rows
optionals_first rows i = omega (arith, optionals_append (take i rows) (drop i rows), ap optionals (take-append-drop i rows))

-- one row more
pub optionals_next : (rows : List Row) (i : ℕ) (row : Row) → StandsAt rows i row → optionals (take (i + 1) rows) ≡ optionals (take i rows) + optional (class_of row.kind)
optionals_next rows i row s = ap optionals (ap (λ (k : ℕ). take k rows) (add-one i) ∙ take_more rows i row s) ∙ optionals_more (take i rows) row

river_optionals : (stage : Stage) (scour clearance : Numbers) → optionals (river_rows stage scour clearance) ≡ 0
unfolding river_rows optionals class_of optional
river_optionals Unbegun s c = refl
river_optionals Dry s c = refl
river_optionals Scoured s c = refl
river_optionals Crossed s c = refl

pub rows_optionals : (job : Job) → optionals (rows_in job) ≡ optionals (load_rows_of job)
unfolding optionals class_of optional
rows_optionals job =
    let river = river_rows job.stage job.scour job.clearance in
    omega (arith, optionals_append river (load_rows_of job), river_optionals job.stage job.scour job.clearance)
