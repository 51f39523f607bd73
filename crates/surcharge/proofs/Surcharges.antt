-- A G row is told one thing. What is told determines the answer, since it can be taken back to it.
use mathlib.Core.Path.{◌≡◌, refl, sym, ap, ◌∙◌}
use mathlib.Core.Bool.{cond}
use native.Mathlib.Omega.{arith}
use lib.Dec.{eqb}
use Rattle.arithmetic.proofs.Cases.{impossible, unlike}
use Rattle.kinds.specs.ranges.Range.{Ranged}
use Rattle.kinds.specs.declared.Kind.TheVariants.{G}
use Rattle.kinds.specs.declared.Numbers.{Numbers}
use Rattle.surcharge.specs.Surcharge.{abutment_in, NotAbove, TypeE, SurchargeTold, refused, pushes, PartsOf, to_bound, past_bound, SurchargeRule, not_above, type_e, pushed}
use Rattle.surcharge.specs.SurchargeRow.{SurchargeSays, out_of_range, in_range, surcharge_told}
use Rattle.surcharge.specs.declared.Abutment.{Abutment}
use Rattle.surcharge.specs.declared.Parts.{Parts}
use Rattle.std.proofs.Common.{Result, Ok, Err}
use Rattle.surcharge.specs.declared.SurchargeRefusal.{SurchargeRefusal}
use Rattle.surcharge.specs.declared.SurchargeRefusal.TheVariants.{OutOfRange, LengthNotAbove, SoilTypeE}
use Rattle.surcharge.proofs.force.Meeting.{parts_one}

pushed_one : {row : Abutment} {a b : Parts} → PartsOf row a → PartsOf row b → a ≡ b
pushed_one (to_bound h x) (to_bound k y) = parts_one x y
pushed_one (to_bound h x) (past_bound k y) = absurd (omega arith)
pushed_one (past_bound h x) (to_bound k y) = absurd (omega arith)
pushed_one (past_bound h x) (past_bound k y) = parts_one x y

pub rule_one : {row : Abutment} {t u : SurchargeTold} → SurchargeRule row t → SurchargeRule row u → t ≡ u
rule_one (not_above h) (not_above k) = refl
rule_one (not_above h) (type_e k e) = absurd (omega arith)
rule_one (not_above h) (pushed k e p) = absurd (omega arith)
rule_one (type_e h d) (not_above k) = absurd (omega arith)
rule_one (type_e h d) (type_e k e) = refl
rule_one (type_e h d) (pushed k e p) = absurd (e d)
rule_one (pushed h d p) (not_above k) = absurd (omega arith)
rule_one (pushed h d p) (type_e k e) = absurd (d e)
rule_one (pushed h d p) (pushed k e q) = ap pushes (pushed_one p q)

-- ---- what a row that is told something is
pub rule_above : {row : Abutment} {t : SurchargeTold} → SurchargeRule row t → t ≡ refused 19 → NotAbove row
rule_above (not_above h) q = h
rule_above (type_e h e) q = unlike 20 19 refl cc
rule_above (pushed h e p) q = impossible cc

pub rule_type_e : {row : Abutment} {t : SurchargeTold} → SurchargeRule row t → t ≡ refused 20 → (NotAbove row → ⊥) × TypeE row
rule_type_e (not_above h) q = unlike 19 20 refl cc
rule_type_e (type_e h e) q = ((λ n. omega arith), e)
rule_type_e (pushed h e p) q = impossible cc

pub rule_pushes : {row : Abutment} {t : SurchargeTold} {parts : Parts} → SurchargeRule row t → t ≡ pushes parts → (NotAbove row → ⊥) × (TypeE row → ⊥)
rule_pushes (not_above h) q = impossible cc
rule_pushes (type_e h e) q = impossible cc
rule_pushes (pushed h e p) q = ((λ n. omega arith), e)

-- no row's columns are told 11
rule_told : {row : Abutment} {t : SurchargeTold} → SurchargeRule row t → t ≡ refused 11 → ⊥
rule_told (not_above h) e = unlike 19 11 refl cc
rule_told (type_e h d) e = unlike 20 11 refl cc
rule_told (pushed h d p) e = impossible cc

pub says_out : {row : Numbers} {t : SurchargeTold} → SurchargeSays row t → t ≡ refused 11 → Ranged G row → ⊥
says_out (out_of_range h) e r = h r
says_out (in_range q s) e r = rule_told s e

pub says_rule : {row : Numbers} {t : SurchargeTold} → SurchargeSays row t → (t ≡ refused 11 → ⊥) → Ranged G row × SurchargeRule (abutment_in row) t
says_rule (out_of_range h) n = absurd (n refl)
says_rule (in_range r s) n = (r, s)

-- ---- and that it is one thing
says_one : {row : Numbers} {t u : SurchargeTold} → SurchargeSays row t → SurchargeSays row u → t ≡ u
says_one (out_of_range h) (out_of_range k) = refl
says_one (out_of_range h) (in_range r s) = absurd (h r)
says_one (in_range r s) (out_of_range h) = absurd (h r)
says_one (in_range p s) (in_range q t) = rule_one s t

back : SurchargeTold → Result Parts SurchargeRefusal
back (refused n) = Err (cond (eqb n 11) OutOfRange (cond (eqb n 19) LengthNotAbove SoilTypeE))
back (pushes parts) = Ok parts

back_told : (r : Result Parts SurchargeRefusal) → back (surcharge_told r) ≡ r
unfolding back
back_told (Err OutOfRange) = refl
back_told (Err LengthNotAbove) = refl
back_told (Err SoilTypeE) = refl
back_told (Ok parts) = refl

-- no second answer meets the promise of `pressure`
pub surcharge_one : (row : Numbers) (r s : Result Parts SurchargeRefusal) → SurchargeSays row (surcharge_told r) → SurchargeSays row (surcharge_told s) → r ≡ s
surcharge_one row r s u v = sym (back_told r) ∙ ap back (says_one u v) ∙ back_told s
