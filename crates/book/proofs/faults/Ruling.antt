-- The rules of 4 on the book's rows and on the last job's value are one; and they hold of a row exactly if it is misplaced.
use native.Mathlib.Omega.{arith}
use mathlib.Core.Path.{◌≡◌, refl}
use mathlib.Core.List.{List, [], ◌∷◌, ◌++◌}
use Rattle.arithmetic.proofs.Cases.{impossible}
use Rattle.kinds.specs.Table.{role}
use Rattle.kinds.specs.declared.Role.TheVariants.{Base}
use Rattle.rows.specs.Form.{BookRow}
use Rattle.jobs.specs.misplaced.Rules.{FirstRule}
use Rattle.jobs.specs.misplaced.Placing.{Broken, PlacingIs}
use Rattle.jobs.specs.declared.misplaced.Misplaced.{Misplaced}
use Rattle.jobs.specs.declared.misplaced.Misplaced.TheVariants.{NoBase, NoLoad, OtherKey, SecondScour, LateScour, NoScour, SecondClearance, LateClearance, SurplusLoad}
use Rattle.std.specs.Prelude.{Option, Some, None}
use Rattle.jobs.proofs.misplaced.Asking.{asked_row}
use Rattle.jobs.proofs.misplaced.Ruling.{first_map, fits_unbroken, unbroken_fits}
use Rattle.book.specs.JobBook.{IsA, dry, scoured, crossed, job, Jobs, none, ◌and◌}
use Rattle.book.specs.Beginning.{Loaded, Placed}
use Rattle.book.specs.steps.Kept.{last_value}
use Rattle.book.specs.faults.Rules.{Rule, no_base, blank_load, other_key, second_scour, scour_behind_both, late_scour, no_scour, second_clearance, late_clearance, surplus_load}
use Rattle.book.proofs.Steps.{extend, grows}
use Rattle.book.proofs.Growing.{never_unbegun, place_grows, step_place}

-- a rule of the value is the book's
pub value_rule : (js : Jobs) (r : BookRow) (o : Misplaced) → Broken (last_value js) r.keyed o → Rule js r o
value_rule none r NoBase h = no_base h.0
value_rule none r NoLoad h = absurd (h.1 refl)
value_rule none r OtherKey h = absurd (h.1 refl)
value_rule none r SecondScour h = absurd h.1
value_rule none r LateScour h = absurd (let l = h.1 in omega arith)
value_rule none r NoScour h = absurd (h.1 refl)
value_rule none r SecondClearance h = absurd h.1
value_rule none r LateClearance h = absurd (let l = h.1 in omega arith)
value_rule none r SurplusLoad h = absurd (let l = h.1 in omega arith)
value_rule (js and job b v ls) r NoBase h = absurd (never_unbegun v h.1)
value_rule (js and job b v []) r NoLoad h = blank_load h.0
value_rule (js and job b v (x ∷ ls)) r NoLoad h = absurd (let l = h.2 in omega arith)
value_rule (js and job b v ls) r OtherKey h = other_key h.0 (λ s. h.2 s.same)
value_rule (js and job b dry ls) r SecondScour h = absurd h.1
value_rule (js and job b (scoured s) ls) r SecondScour h = second_scour h.0
value_rule (js and job b (crossed s c) ls) r SecondScour h = scour_behind_both h.0
value_rule (js and job b v ls) r LateScour h = late_scour h.0 h.1
value_rule (js and job b dry ls) r NoScour h = no_scour h.0
value_rule (js and job b (scoured s) ls) r NoScour h = absurd (h.2 tt)
value_rule (js and job b (crossed s c) ls) r NoScour h = absurd (h.2 tt)
value_rule (js and job b dry ls) r SecondClearance h = absurd h.1
value_rule (js and job b (scoured s) ls) r SecondClearance h = absurd h.1
value_rule (js and job b (crossed s c) ls) r SecondClearance h = second_clearance h.0
value_rule (js and job b v ls) r LateClearance h = late_clearance h.0 h.1
value_rule (js and job b v ls) r SurplusLoad h = surplus_load h.0 h.1

-- and the other way round
pub rule_value : {js : Jobs} {r : BookRow} {o : Misplaced} → Rule js r o → Broken (last_value js) r.keyed o
rule_value (no_base n) = (n, refl)
rule_value (blank_load {v = v} k) = (k, never_unbegun v, refl)
rule_value (other_key {j = job b v ls} n s) = (n, never_unbegun v, λ e. s (record { same = e }))
rule_value (second_scour k) = (k, tt)
rule_value (scour_behind_both k) = (k, tt)
rule_value (late_scour k l) = (k, l)
rule_value (no_scour k) = (k, λ e. impossible cc, λ h. h)
rule_value (second_clearance k) = (k, tt)
rule_value (late_clearance k l) = (k, l)
rule_value (surplus_load k l) = (k, l)

pub first_rule : {js : Jobs} {r : BookRow} {o : Misplaced} → FirstRule (Broken (last_value js) r.keyed) o → FirstRule (Rule js r) o
first_rule {js} {r} p = first_map (value_rule js r) (λ o h. rule_value h) p

-- where a rule holds of a row, it is misplaced
module _ {rs : List BookRow} {js : Jobs} {r : BookRow} (p : Placed rs js) where
  pub rule_misplaced : {o : Misplaced} → Rule js r o → (ks : Jobs) → Placed (rs ++ r ∷ []) ks → ⊥
  rule_misplaced {o} h ks q =
      fits_unbroken (role r.keyed.row.kind) (last_value js).stage (last_value js).count ((last_value js).key ≡ r.keyed.key) (step_place (grows p q)) o (rule_value h)

  -- and where none does, it is not
  pub unruled_placed : ((o : Misplaced) → Rule js r o → ⊥) → ((ks : Jobs) → Placed (rs ++ r ∷ []) ks → ⊥) → ⊥
  unruled_placed n out =
      unbroken_fits (last_value js).count ((last_value js).key ≡ r.keyed.key) (role r.keyed.row.kind) (last_value js).stage (λ o h. n o (value_rule js r o h))
      (λ w. let g = place_grows js r w in out g.jobs (extend p g.step))

-- a rule holds of a row that is misplaced, and so one is the first
pub record RuleFound (js : Jobs) (r : BookRow) : Type 0 where
  pub why : Misplaced
  pub first : FirstRule (Rule js r) why

pub misplaced_rule : {rs : List BookRow} {js : Jobs} {r : BookRow} → Placed rs js → ((ks : Jobs) → Placed (rs ++ r ∷ []) ks → ⊥) → RuleFound js r
misplaced_rule {rs} {js} {r} p out = let a = asked_row (last_value js) r.keyed in by a.placing a.says
  where
    by : (x : Option Misplaced) → PlacingIs (last_value js) r.keyed x → RuleFound js r
    by None n = absurd (unruled_placed p (λ o h. n o (rule_value h)) out)
    by (Some why) f = record { why = why; first = first_rule f }

-- of a B row, no rule holds where no load row is missing before it
pub base_unruled : (js : Jobs) {r : BookRow} → IsA Base r → Loaded js → (o : Misplaced) → Rule js r o → ⊥
base_unruled none k l o (no_base n) = n k
base_unruled (js and job b v ls) k l o (blank_load i) = absurd (omega arith)
base_unruled (js and job b v ls) k l o (other_key n s) = n k
base_unruled (js and job b v ls) k l o (second_scour i) = impossible cc
base_unruled (js and job b v ls) k l o (scour_behind_both i) = impossible cc
base_unruled (js and job b v ls) k l o (late_scour i n) = impossible cc
base_unruled (js and job b v ls) k l o (no_scour i) = impossible cc
base_unruled (js and job b v ls) k l o (second_clearance i) = impossible cc
base_unruled (js and job b v ls) k l o (late_clearance i n) = impossible cc
base_unruled (js and job b v ls) k l o (surplus_load i n) = impossible cc

pub unruled_loaded : (js : Jobs) {r : BookRow} → IsA Base r → ((o : Misplaced) → Rule js r o → ⊥) → Loaded js
unruled_loaded none k n = tt
unruled_loaded (js and job b v []) k n = absurd (n NoLoad (blank_load k))
unruled_loaded (js and job b v (x ∷ ls)) k n = omega arith
