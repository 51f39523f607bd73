-- Both cases of 5.8.2 are one, by how far down the load spreads; so at h = L - B they give the same forces and arms, before they are rounded and after.
use mathlib.Core.Path.{◌≡◌, sym, ◌∙◌, ap, ap₂, subst}
use Prim.Native.Nat.{ℕ, ◌*◌, ◌-◌, ◌^◌, ◌≤◌}
use native.Mathlib.Omega.{arith}
use Rattle.arithmetic.specs.rounding.Least.{RoundedUp}
use Rattle.arithmetic.proofs.rounding.Laws.{least_one}
use Rattle.surcharge.specs.force.Force.{Quotient, quotient, Pressure, Pressures, within, beyond, Force, PartIs, PartsAre}
use Rattle.surcharge.specs.force.Meeting.{SameParts}
use Rattle.surcharge.specs.force.steps.Joint.{joint}
use Rattle.kinds.specs.declared.pushes.Push.{Push}
use Rattle.surcharge.specs.declared.Parts.{Parts}

-- ---- a force over a length is one, and so are both parts
force_one : {L : ℕ} {q : Quotient} {H G : ℕ} → Force L q H → Force L q G → H ≡ G
force_one {L} {q} {H} a b =
    let e = least_one a.kilograms b.kilograms in
    least_one (subst (λ (p : ℕ). RoundedUp (p * L * 980665) (10 ^ 3 * 10 ^ 5 * 10 ^ 3) H) e a.over_length) b.over_length

part_one : {L : ℕ} {q : Pressure} {a b : Push} → PartIs L q a → PartIs L q b → a ≡ b
part_one {L} {q} {a} {b} x y = ap₂ (λ (H z : ℕ). record { force = H; arm = z }) (force_one x.force y.force) (least_one x.arm y.arm)

pub parts_one : {L : ℕ} {q : Pressures} {a b : Parts} → PartsAre L q a → PartsAre L q b → a ≡ b
parts_one x y = ap₂ (λ (first second : Push). record { first = first; second = second }) (part_one x.p1 y.p1) (part_one x.p2 y.p2)

-- ---- the two cases
pub within_joint : (T k B h : ℕ) → within T k B h ≡ joint T k B h h
within_joint T k B h = let e : 2 * h ≡ 3 * h - h = omega arith in cc

pub beyond_joint : (T k B h L : ℕ) → B ≤ L → beyond T k B h L ≡ joint T k B h (L - B)
beyond_joint T k B h L wide =
    ap (λ (l : ℕ).
    record {
      p1 = record { force = quotient (T * h * k) (100 * l); arm = quotient h 2 };
      p2 = record { force = quotient (T * (L - B) ^ 2 * k) (200 * B * l); arm = quotient (3 * h - (L - B)) 3 };
    }) (omega arith)

-- at h = L - B
pub cases_meet : (T k B h L : ℕ) → B ≤ L → h ≡ L - B → SameParts T k B h L
cases_meet T k B h L wide there =
    record { unrounded = same; rounded = λ a b x y. parts_one (subst (λ (q : Pressures). PartsAre L q a) same x) y }
  where
    same : within T k B h ≡ beyond T k B h L
    same = within_joint T k B h ∙ ap (joint T k B h) there ∙ sym (beyond_joint T k B h L wide)
