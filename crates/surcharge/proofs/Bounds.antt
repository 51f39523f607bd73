-- How large the two parts of a G row in range can be.
use mathlib.Core.Path.{subst}
use Prim.Native.Nat.{ℕ, ◌+◌, ◌*◌, ◌-◌, ◌^◌, ◌≤◌, ◌<◌}
use native.Mathlib.Nat.{le_refl, le_trans, le_of_lt, mul-le-mul}
use native.Mathlib.Omega.{arith}
use lib.Dec.{lit≤}
use Rattle.arithmetic.proofs.rounding.Powers.{square}
use Rattle.kinds.specs.ranges.Range.{Ranged}
use Rattle.kinds.specs.declared.Kind.TheVariants.{G}
use Rattle.kinds.specs.declared.Numbers.{Numbers}
use Rattle.surcharge.specs.tables.Tables.{active}
use Rattle.surcharge.specs.force.Force.{Quotient, Pressures, Force, PartsAre}
use Rattle.surcharge.specs.force.steps.Joint.{joint}
use Rattle.surcharge.specs.force.steps.Moderate.{Moderate}
use Rattle.surcharge.specs.Surcharge.{abutment_in, B, total, PartsOf, to_bound, past_bound, pushes, SurchargeRule, pushed}
use Rattle.surcharge.specs.SurchargeRow.{SurchargeSays, in_range}
use Rattle.surcharge.specs.declared.Abutment.{Abutment}
use Rattle.surcharge.specs.declared.Parts.{Parts}
use Rattle.surcharge.proofs.tables.Sizes.{surcharge_small, width_wide, active_small}
use Rattle.surcharge.proofs.force.Sizes.{first_small, second_small}
use Rattle.surcharge.proofs.force.Meeting.{within_joint, beyond_joint}

-- H of two moderate parts together is at most 267,000 kN, and their twist at most 2.67·10⁹ kN mm
pub both_forces : {parts : Parts} → Moderate parts → parts.first.force + parts.second.force ≤ 300000
both_forces m = let a = m.first in let b = m.second in omega arith

pub both_twists : {parts : Parts} → Moderate parts → parts.first.force * parts.first.arm + parts.second.force * parts.second.arm ≤ 3000000000
both_twists m = let a = mul-le-mul m.first m.first_arm in let b = mul-le-mul m.second m.second_arm in omega arith

force_small : {L : ℕ} {q : Quotient} {H : ℕ} (most bound : ℕ) → L ≤ 60000 → q.over ≤ most * q.under → most * 60000 * 980665 ≤ bound * (10 ^ 3 * 10 ^ 5 * 10 ^ 3) → Force L q H → H ≤ bound
force_small most bound long small fits f = f.over_length.least bound (le_trans (mul-le-mul (mul-le-mul (f.kilograms.least most small) long) (le_refl 980665)) fits)

-- by how far down the load spreads
joint_moderate : (T k B h s : ℕ) {L : ℕ} {parts : Parts} → T ≤ 36300 → k ≤ 100 → 1800 ≤ B → h ≤ 15000 → s ≤ h → L ≤ 60000 → PartsAre L (joint T k B h s) parts → Moderate parts
joint_moderate T k B h s heavy pressing wide deep down long acts =
    record {
      first = force_small 302500 178000 long (first_small T k B h s heavy pressing wide deep) (lit≤ tt) acts.p1.force;
      first_arm = acts.p1.arm.least 7500 (omega arith);
      second = force_small 151250 89000 long (rw (square s) (second_small T k B h s heavy pressing wide (le_trans down deep))) (lit≤ tt) acts.p2.force;
      second_arm = acts.p2.arm.least 15000 (omega arith);
    }

module _ (row : Abutment) (from : 1 ≤ row.standard) (to : row.standard ≤ 7) (dead : row.dead ≤ 20000) (deep : row.depth ≤ 15000) (long : row.length ≤ 60000) where
  heavy : total row ≤ 36300
  heavy = let s = surcharge_small row.standard in omega arith

  wide : 1800 ≤ B row
  wide = width_wide row.standard from to

  pushed_moderate : {parts : Parts} → B row < row.length → PartsOf row parts → Moderate parts
  pushed_moderate {parts} above (to_bound near acts) =
      joint_moderate (total row) (active row.soil) (B row) row.depth row.depth heavy (active_small row.soil) wide deep (le_refl _) long
      (subst (λ (q : Pressures). PartsAre row.length q parts) (within_joint (total row) (active row.soil) (B row) row.depth) acts)
  pushed_moderate {parts} above (past_bound far acts) =
      joint_moderate (total row) (active row.soil) (B row) row.depth (row.length - B row) heavy (active_small row.soil) wide deep (le_of_lt far) long
      (subst (λ (q : Pressures). PartsAre row.length q parts) (beyond_joint (total row) (active row.soil) (B row) row.depth row.length (le_of_lt above)) acts)

  rule_moderate : {parts : Parts} → SurchargeRule row (pushes parts) → Moderate parts
  rule_moderate (pushed above e p) = pushed_moderate above p

pub pushes_moderate : {row : Numbers} {parts : Parts} → Ranged G row → SurchargeRule (abutment_in row) (pushes parts) → Moderate parts
pushes_moderate {row} r s = rule_moderate (abutment_in row) r.n1.from r.n1.to r.n2.to r.n4.to r.n5.to s

pub says_moderate : {row : Numbers} {parts : Parts} → SurchargeSays row (pushes parts) → Moderate parts
says_moderate (in_range r s) = pushes_moderate r s
