-- The columns of an S row give one thing: the refusals and the depth exclude each other. What is told determines the answer, since it can be taken back to it.
use mathlib.Core.Path.{◌≡◌, refl, sym, ap, subst, ◌∙◌}
use mathlib.Core.Bool.{cond}
use Prim.Native.Nat.{ℕ, ◌<◌}
use native.Mathlib.Omega.{arith}
use lib.Dec.{eqb}
use Rattle.arithmetic.proofs.rounding.Laws.{least_one}
use Rattle.scour.specs.lacey.Lacey.{Intensity, RegimeDepth, ConstrictedDepth, DepthNeeded}
use Rattle.scour.specs.Scour.{ScourTold, refused, needs, Constricted, LaceyDepth, regime, constricted, ScourRule, large_catchment, too_intense, needed}
use Rattle.scour.specs.ScourRow.{scour_told}
use Rattle.scour.specs.declared.Waterway.{Waterway}
use Rattle.std.proofs.Common.{Result, Ok, Err}
use Rattle.arithmetic.specs.declared.rounding.Rounded.{Rounded}
use Rattle.scour.specs.declared.ScourRefusal.{ScourRefusal}
use Rattle.scour.specs.declared.ScourRefusal.TheVariants.{OutOfRange, LargeCatchment, TooIntense}
use Rattle.scour.proofs.discharge.Rules.{discharge_one, no_discharge}
use Rattle.scour.proofs.lacey.Rules.{depth_needed_one}

module _ {row : Waterway} where
  pub intensity_one : {p q : ℕ} → Constricted row p → Constricted row q → p ≡ q
  intensity_one {q = q} u v = least_one u.intensity (subst (λ (Qf : ℕ). Intensity Qf row.width q) (discharge_one v.flood u.flood) v.intensity)

  lacey_one : {D E : ℕ} → LaceyDepth row D → LaceyDepth row E → D ≡ E
  lacey_one {E = E} (regime a h u) (regime {exact = e} b k v) =
      least_one u.rounded (subst (λ (Qf : ℕ). RegimeDepth Qf row.silt E e) (discharge_one b a) v).rounded
  lacey_one (regime a h u) (constricted b k v) = absurd (b.narrow h)
  lacey_one (constricted a h u) (regime b k v) = absurd (a.narrow k)
  lacey_one {E = E} (constricted a h u) (constricted {exact = e} b k v) =
      least_one u.rounded (subst (λ (q : ℕ). ConstrictedDepth q row.silt E e) (intensity_one b a) v).rounded

  -- a catchment above 25,000 has no depth, and neither has a q above 50,000
  large : {D : ℕ} → 25000 < row.catchment → LaceyDepth row D → ⊥
  large h (regime a k u) = no_discharge h a
  large h (constricted a k u) = no_discharge h a.flood

  intense : {q D : ℕ} → Constricted row q → 50000 < q → LaceyDepth row D → ⊥
  intense a h (regime b k u) = a.narrow k
  intense a h (constricted b k u) = omega (arith, intensity_one a b)

  pub scour_rule_one : {t u : ScourTold} → ScourRule row t → ScourRule row u → t ≡ u
  scour_rule_one (large_catchment h) (large_catchment k) = refl
  scour_rule_one (large_catchment h) (too_intense a k) = absurd (no_discharge h a.flood)
  scour_rule_one (large_catchment h) (needed l n) = absurd (large h l)
  scour_rule_one (too_intense a h) (large_catchment k) = absurd (no_discharge k a.flood)
  scour_rule_one (too_intense a h) (too_intense b k) = refl
  scour_rule_one (too_intense a h) (needed l n) = absurd (intense a h l)
  scour_rule_one (needed l m) (large_catchment k) = absurd (large k l)
  scour_rule_one (needed l m) (too_intense a k) = absurd (intense a k l)
  scour_rule_one (needed l m) (needed {depth = d} {exact = e} k n) =
      let one = depth_needed_one m (subst (λ (D : ℕ). DepthNeeded D row.reach d e) (lacey_one k l) n) in
      let value = one.0 in
      let exact = one.1 in
      cc

back : ScourTold → Result Rounded ScourRefusal
back (refused n) = Err (cond (eqb n 11) OutOfRange (cond (eqb n 12) LargeCatchment TooIntense))
back (needs depth exact) = Ok (record { value = depth; exact = exact })

back_told : (r : Result Rounded ScourRefusal) → back (scour_told r) ≡ r
unfolding back
back_told (Err OutOfRange) = refl
back_told (Err LargeCatchment) = refl
back_told (Err TooIntense) = refl
back_told (Ok depth) = refl

-- answers that tell the same are one
pub scour_told_one : (r s : Result Rounded ScourRefusal) → scour_told r ≡ scour_told s → r ≡ s
scour_told_one r s e = sym (back_told r) ∙ ap back e ∙ back_told s
