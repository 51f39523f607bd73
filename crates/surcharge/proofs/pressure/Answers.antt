-- Each way out is one case of what is told. How far down the load spreads decides between the clause's two cases.
use Rattle.std.proofs.Common.{◌≡◌, ℕ, ◌-◌, ◌≤◌, ◌<◌, ⊎_elim, min, sym, ap, ◌∙◌, subst, arith}
use native.Mathlib.Nat.{le_of_lt}
use Rattle.std.proofs.lemmas.Bool.{cases_lt}
use Rattle.arithmetic.proofs.Deciding.{decided, refuted}
use Rattle.kinds.specs.ranges.Range.{Ranged}
use Rattle.kinds.specs.declared.Kind.TheVariants.{G}
use Rattle.kinds.specs.declared.Numbers.{Numbers}
use Rattle.surcharge.specs.tables.Tables.{active}
use Rattle.surcharge.specs.force.Force.{Pressures, PartsAre}
use Rattle.surcharge.specs.force.steps.Joint.{joint}
use Rattle.surcharge.specs.Surcharge.{B, total, abutment_in, SurchargeTold, PartsOf, to_bound, past_bound, SurchargeRule, not_above, type_e, pushed}
use Rattle.surcharge.specs.SurchargeRow.{SurchargeSays, out_of_range, in_range}
use Rattle.surcharge.specs.declared.Abutment.{Abutment}
use Rattle.surcharge.specs.declared.Parts.{Parts}
use Rattle.surcharge.proofs.force.Meeting.{within_joint, beyond_joint}
use Rattle.surcharge.proofs.pressure.Goals as goal

-- what the columns give is told of the row
says : {row : Numbers} {abutment : Abutment} {t : SurchargeTold} → Ranged G row → abutment ≡ abutment_in row → SurchargeRule abutment t → SurchargeSays row t
says {t = t} ranged e h = in_range ranged (subst (λ (a : Abutment). SurchargeRule a t) e h)

-- the load spreads to the depth where that is to L - B, and else to L - B
parts_of_row : (row : Abutment) {parts : Parts} (spread : ℕ) → B row < row.length → spread ≡ min row.depth (row.length - B row)
    → PartsAre row.length (joint (total row) (active row.soil) (B row) row.depth spread) parts → PartsOf row parts
parts_of_row row {parts} spread above is acts = ⊎_elim far near (cases_lt (row.length - B row) row.depth)
  where
    near : row.depth ≤ row.length - B row → PartsOf row parts
    near h =
        let e : spread ≡ row.depth = omega arith in
        to_bound h (subst (λ (q : Pressures). PartsAre row.length q parts) (ap (joint (total row) (active row.soil) (B row) row.depth) e ∙ sym (within_joint (total row) (active row.soil) (B row) row.depth)) acts)

    far : row.length - B row < row.depth → PartsOf row parts
    far h =
        let e : spread ≡ row.length - B row = omega arith in
        past_bound h
        (subst (λ (q : Pressures). PartsAre row.length q parts)
        (ap (joint (total row) (active row.soil) (B row) row.depth) e ∙ sym (beyond_joint (total row) (active row.soil) (B row) row.depth row.length (le_of_lt above)))
        acts)

pub returns-then-not-is_ranged : goal.returns-then-not-is_ranged
returns-then-not-is_ranged c = out_of_range (refuted c.is_ranged.result c.if-not-is_ranged.true c.is_ranged.ensures)

pub returns-then-abutment-width : goal.returns-then-abutment-width
returns-then-abutment-width c =
    says (decided c.is_ranged.result c.if-not-is_ranged.false c.is_ranged.ensures) c.from-abutment.ensures (not_above (omega (arith, c.width_of-width.ensures)))

pub returns-then-abutment-eq5 : goal.returns-then-abutment-eq5
returns-then-abutment-eq5 c =
    says (decided c.is_ranged.result c.if-not-is_ranged.false c.is_ranged.ensures) c.from-abutment.ensures (type_e (omega (arith, c.width_of-width.ensures)) c.if-abutment-eq5.true)

pub returns : goal.returns
returns c =
    let row = c.from-abutment.result in
    let above : B row < row.length = omega (arith, c.width_of-width.ensures) in
    let spread : c.min-spread.result ≡ min row.depth (row.length - B row) = cc in
    says (decided c.is_ranged.result c.if-not-is_ranged.false c.is_ranged.ensures) c.from-abutment.ensures
    (pushed above c.if-abutment-eq5.false (parts_of_row row c.min-spread.result above spread (rw (← c.width_of-width.ensures, ← c.surcharge_of.ensures, ← c.active_of-k.ensures) c.parts_of.ensures)))
