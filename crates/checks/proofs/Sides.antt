-- An arm of several checks: what each of them has, the one that comes to the arm has; so an arm knows its side.
use mathlib.Core.Path.{◌≡◌, refl}
use mathlib.Core.List.{List, [], ◌∷◌, map}
use lib.ListN.{get_or}
use types.Run.{OneOf}
use denote.Enum.Declared.{tag_of}
use Rattle.sets.proofs.Arms.{AllOf, variant_arm}
use Rattle.checks.specs.declared.Check.{Check}
use Rattle.checks.specs.declared.Check.TheVariants.{OP, OM, SL, PR, RK}
use Rattle.checks.specs.Order.{lowest, highest, side}
use Rattle.checks.specs.contracts.Check.{the_type}

check_at : (k : Check) → get_or (OP ∷ OM ∷ SL ∷ PR ∷ RK ∷ []) (tag_of the_type k) OP ≡ k
check_at OP = refl
check_at OM = refl
check_at SL = refl
check_at PR = refl
check_at RK = refl

pub check_arm : (P : Check → Type 0) (js : List Check) (k : Check) → AllOf P js → OneOf (map (tag_of the_type) js) (tag_of the_type k) → P k
check_arm = variant_arm (tag_of the_type) (λ n. get_or (OP ∷ OM ∷ SL ∷ PR ∷ RK ∷ []) n OP) check_at

pub low_side : (k : Check) → OneOf (0 ∷ 1 ∷ 2 ∷ []) (tag_of the_type k) → side k ≡ lowest
unfolding side
low_side k t = check_arm (λ k. side k ≡ lowest) (OP ∷ OM ∷ SL ∷ []) k (refl, (refl, refl)) t

pub high_side : (k : Check) → OneOf (3 ∷ 4 ∷ []) (tag_of the_type k) → side k ≡ highest
unfolding side
high_side k t = check_arm (λ k. side k ≡ highest) (PR ∷ RK ∷ []) k (refl, refl) t
