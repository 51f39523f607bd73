-- Of every row it is known whether a rule holds, and which is the first: keys, stages and counts are all known to be the same or not.
use Prim.Native.Nat.{ℕ}
use native.Mathlib.Decide.{ℕ_discrete, dec_lt}
use native.Mathlib.Omega.{arith}
use mathlib.Core.Path.{◌≡◌, refl, ap}
use mathlib.Core.List.{List-discrete}
use Rattle.arithmetic.proofs.Cases.{impossible, by_cases, both}
use Rattle.fields.specs.declared.names.Name.{Name}
use Rattle.kinds.specs.Table.{role}
use Rattle.kinds.specs.declared.Role.{Role}
use Rattle.kinds.specs.declared.Role.TheVariants.{Base, Scour, Clearance, Load}
use Rattle.rows.specs.declared.keys.Key.{Key}
use Rattle.rows.specs.declared.keys.Keyed.{Keyed}
use Rattle.jobs.specs.declared.Job.{Job}
use Rattle.jobs.specs.declared.stages.Stage.{Stage}
use Rattle.jobs.specs.declared.stages.Stage.TheVariants.{Unbegun, Dry, Scoured, Crossed}
use Rattle.jobs.specs.declared.misplaced.Misplaced.TheVariants.{NoBase, NoLoad, OtherKey, SecondScour, LateScour, NoScour, SecondClearance, LateClearance, SurplusLoad}
use Rattle.std.specs.Prelude.{Option, Some, None}
use Rattle.jobs.specs.declared.misplaced.Misplaced.{Misplaced}
use Rattle.jobs.specs.stages.Rows.{HasScour, HasClearance}
use Rattle.jobs.specs.misplaced.Placing.{Holds, PlacingSays}
use Rattle.jobs.proofs.misplaced.Ruling.{base_short, base_in_place, unbegun, other_key, second_scour, late_scour, scour_in_place, no_scour, second_clearance, late_clearance, clearance_in_place, surplus_load, load_in_place}

name_known : (m n : Name) → Dec (m ≡ n)
name_known m n =
    by_cases (both (ℕ_discrete m.len n.len) (List-discrete ℕ_discrete m.bytes n.bytes))
    (λ w. yes (λ i. record { len = w.0 i; bytes = w.1 i }))
    (λ w. no (λ e. w (ap (λ (x : Name). x.len) e, ap (λ (x : Name). x.bytes) e)))

key_known : (a b : Key) → Dec (a ≡ b)
key_known a b =
    by_cases (both (name_known a.member b.member) (name_known a.job b.job))
    (λ w. yes (λ i. record { member = w.0 i; job = w.1 i }))
    (λ w. no (λ e. w (ap (λ (x : Key). x.member) e, ap (λ (x : Key). x.job) e)))

unbegun_known : (s : Stage) → Dec (s ≡ Unbegun)
unbegun_known Unbegun = yes refl
unbegun_known Dry = no (λ e. impossible cc)
unbegun_known Scoured = no (λ e. impossible cc)
unbegun_known Crossed = no (λ e. impossible cc)

scour_known : (s : Stage) → Dec (HasScour s)
scour_known Unbegun = no (λ h. h)
scour_known Dry = no (λ h. h)
scour_known Scoured = yes tt
scour_known Crossed = yes tt

clearance_known : (s : Stage) → Dec (HasClearance s)
clearance_known Unbegun = no (λ h. h)
clearance_known Dry = no (λ h. h)
clearance_known Scoured = no (λ h. h)
clearance_known Crossed = yes tt

-- what is told of a row
pub record Asked (role : Role) (stage : Stage) (count : ℕ) (same : Type 0) : Type 0 where
  pub placing : Option Misplaced
  pub says : PlacingSays (Holds role stage count same) placing

module _ (stage : Stage) (count : ℕ) (same : Type 0) where
  base_asked : Asked Base stage count same
  base_asked =
      by_cases (unbegun_known stage) (λ u. record { placing = None; says = base_in_place Base stage count same refl (λ b z. b u) })
      (λ b.
      by_cases (dec_lt 0 count) (λ l. record { placing = None; says = base_in_place Base stage count same refl (λ b z. omega arith) })
      (λ l. record { placing = Some NoLoad; says = base_short Base stage count same refl b (omega arith) }))

  module _ (begun : stage ≡ Unbegun → ⊥) (key : same) where
    scour_asked : Asked Scour stage count same
    scour_asked =
        by_cases (scour_known stage) (λ s. record { placing = Some SecondScour; says = second_scour Scour stage count same (λ e. impossible cc) begun key refl s })
        (λ n.
        by_cases (dec_lt 0 count) (λ l. record { placing = Some LateScour; says = late_scour Scour stage count same (λ e. impossible cc) begun key refl n l })
        (λ l. record { placing = None; says = scour_in_place Scour stage count same (λ e. impossible cc) begun key refl n (omega arith) }))

    clearance_asked : Asked Clearance stage count same
    clearance_asked =
        by_cases (scour_known stage)
        (λ s.
        by_cases (clearance_known stage) (λ c. record { placing = Some SecondClearance; says = second_clearance Clearance stage count same (λ e. impossible cc) begun key refl s c })
        (λ n.
        by_cases (dec_lt 0 count) (λ l. record { placing = Some LateClearance; says = late_clearance Clearance stage count same (λ e. impossible cc) begun key refl s n l })
        (λ l. record { placing = None; says = clearance_in_place Clearance stage count same (λ e. impossible cc) begun key refl s n (omega arith) })))
        (λ n. record { placing = Some NoScour; says = no_scour Clearance stage count same (λ e. impossible cc) begun key refl n })

    load_asked : Asked Load stage count same
    load_asked =
        by_cases (dec_lt count 16) (λ l. record { placing = None; says = load_in_place Load stage count same (λ e. impossible cc) begun key refl l })
        (λ l. record { placing = Some SurplusLoad; says = surplus_load Load stage count same (λ e. impossible cc) begun key refl (omega arith) })

  asked_of : (role : Role) → (role ≡ Base → ⊥) → Dec same → ((stage ≡ Unbegun → ⊥) → same → Asked role stage count same) → Asked role stage count same
  asked_of role other d later =
      by_cases (unbegun_known stage) (λ u. record { placing = Some NoBase; says = unbegun role stage count same other u })
      (λ b. by_cases d (later b) (λ n. record { placing = Some OtherKey; says = other_key role stage count same other b n }))

  asked : (role : Role) → Dec same → Asked role stage count same
  asked Base d = base_asked
  asked Scour d = asked_of Scour (λ e. impossible cc) d scour_asked
  asked Clearance d = asked_of Clearance (λ e. impossible cc) d clearance_asked
  asked Load d = asked_of Load (λ e. impossible cc) d load_asked

-- every row behind the rows of a job
pub asked_row : (j : Job) (r : Keyed) → Asked (role r.row.kind) j.stage j.count (j.key ≡ r.key)
asked_row j r = asked j.stage j.count (j.key ≡ r.key) (role r.row.kind) (key_known j.key r.key)
