-- What a G row gives, in either case of 5.8.2, by tests that are computed: of its kg per metre, its kN and its arms.
use mathlib.Core.Bool.{Bool}
use Prim.Native.Nat.{ℕ, ◌*◌, ◌-◌, ◌^◌, ◌<◌}
use lib.Dec.{T, leb, ltb, leb→le, ltb→lt}
use Rattle.arithmetic.proofs.rounding.Tables.{both, both_first, both_second}
use Rattle.arithmetic.proofs.rounding.Compute.{is_up, up_test}
use Rattle.surcharge.specs.tables.Tables.{active}
use Rattle.surcharge.specs.force.Force.{Pressure, Pressures, within, beyond, PartIs, PartsAre}
use Rattle.surcharge.specs.Surcharge.{B, total, TypeE, to_bound, past_bound, SurchargeRule, pushes, pushed}
use Rattle.surcharge.specs.declared.Abutment.{Abutment}
use Rattle.kinds.specs.declared.pushes.Push.{Push}
use Rattle.surcharge.specs.declared.Parts.{Parts}

abbrev acts : ℕ → Pressure → ℕ → Push → Bool
acts L q p part = both (is_up q.force.over q.force.under p) (both (is_up (p * L * 980665) (10 ^ 3 * 10 ^ 5 * 10 ^ 3) part.force) (is_up q.arm.over q.arm.under part.arm))

acts_test : (L : ℕ) (q : Pressure) (p : ℕ) (part : Push) → T (acts L q p part) → PartIs L q part
acts_test L q p part t =
    let kilograms = is_up q.force.over q.force.under p in
    let newtons = is_up (p * L * 980665) (10 ^ 3 * 10 ^ 5 * 10 ^ 3) part.force in
    let arms = is_up q.arm.over q.arm.under part.arm in
    let rest = both_second kilograms (both newtons arms) t in
    record {
      force = record { p = p; kilograms = up_test _ _ _ (both_first kilograms (both newtons arms) t); over_length = up_test _ _ _ (both_first newtons arms rest) };
      arm = up_test _ _ _ (both_second newtons arms rest);
    }

module _ (row : Abutment) (p₁ p₂ : ℕ) (parts : Parts) where
  abbrev tests : Pressures → Bool
  tests q = both (ltb (B row) row.length) (both (acts row.length q.p1 p₁ parts.first) (acts row.length q.p2 p₂ parts.second))

  above : (q : Pressures) → T (tests q) → B row < row.length
  above q t = ltb→lt (B row) row.length (both_first (ltb (B row) row.length) (both (acts row.length q.p1 p₁ parts.first) (acts row.length q.p2 p₂ parts.second)) t)

  both_act : (q : Pressures) → T (tests q) → PartsAre row.length q parts
  both_act q t =
      let first = acts row.length q.p1 p₁ parts.first in
      let second = acts row.length q.p2 p₂ parts.second in
      let rest = both_second (ltb (B row) row.length) (both first second) t in
      record { p1 = acts_test row.length q.p1 p₁ parts.first (both_first first second rest); p2 = acts_test row.length q.p2 p₂ parts.second (both_second first second rest) }

  abbrev near : Pressures
  near = within (total row) (active row.soil) (B row) row.depth

  abbrev far : Pressures
  far = beyond (total row) (active row.soil) (B row) row.depth row.length

  module _ (has : TypeE row → ⊥) where
    pub near_test : T (leb row.depth (row.length - B row)) → T (tests near) → SurchargeRule row (pushes parts)
    near_test d t = pushed (above near t) has (to_bound (leb→le row.depth (row.length - B row) d) (both_act near t))

    pub far_test : T (ltb (row.length - B row) row.depth) → T (tests far) → SurchargeRule row (pushes parts)
    far_test d t = pushed (above far t) has (past_bound (ltb→lt (row.length - B row) row.depth d) (both_act far t))
