-- The limit of each check in each combination is the number that the definition gives, or what `arithmetic::rounding::down` promises of the product. That OP, OM and
-- SL are asked only of a combination that has a limit for them, and RK only on rock, is read off what it is to have the check.
use borrow.Author.Rules.{rules}
use mathlib.Core.Path.{refl, subst}
use mathlib.Core.List.{[], ◌∷◌}
use types.Run.{OneOf}
use denote.Enum.Declared.{tag_of}
use Rattle.sets.specs.contracts.Combination as combinations
use Rattle.sets.specs.declared.Combination.{Combination}
use Rattle.sets.specs.declared.Combination.TheVariants.{I, II, III, IV}
use Rattle.sets.proofs.Arms.{combination_arm}
use Rattle.checks.specs.contracts.Check as checks
use Rattle.checks.proofs.Sides.{check_arm}
use Rattle.checks.specs.declared.Check.{Check}
use Rattle.checks.specs.declared.Check.TheVariants.{OP, OM, SL, PR}
use Rattle.checks.specs.steps.HasCheck.{HasCheck}
use Rattle.checks.specs.limits.Limits.{TippingLimit, SlidingLimit, PressureLimit, Limit}
use Rattle.checks.proofs.limits.limit_of.Statement.{statement}
use Rattle.checks.proofs.limits.limit_of.Tie as tie

-- OP and OM, and II and III: an arm of the two
of_tipping : (P : Check → Type 0) → P OP → P OM → (k : Check) → OneOf (0 ∷ 1 ∷ []) (tag_of checks.the_type k) → P k
of_tipping P p q k t = check_arm P (OP ∷ OM ∷ []) k (p, q) t

of_second_third : (P : Combination → Type 0) → P II → P III → (k : Combination) → OneOf (1 ∷ 2 ∷ []) (tag_of combinations.the_type k) → P k
of_second_third P p q k t = combination_arm P (II ∷ III ∷ []) k (p, q) t

enum_told : tie.Need-enum_told-1
enum_told c = search rules

enum-told-2 : tie.Need-enum_told-in-IV
enum-told-2 c = search rules

enum-told-3 : tie.Need-enum_told-in-SL
enum-told-3 c = search rules

enum-told-4 : tie.Need-enum_told-in-I-combination
enum-told-4 c = search rules

enum-told-5 : tie.Need-enum_told-in-IV-combination
enum-told-5 c = search rules

enum-told-6 : tie.Need-enum_told-in-PR
enum-told-6 c = search rules

enum-told-7 : tie.Need-enum_told-in-I-combination-2
enum-told-7 c = search rules

mul-down : tie.Need-overflow_mul-base
mul-down c = search rules

down-requires : tie.Need-down-requires
down-requires c κs = search rules

enum-told-8 : tie.Need-enum_told-in-IV-combination-2
enum-told-8 c = search rules

mul-down-2 : tie.Need-overflow_mul-base-in-IV-combination-2
mul-down-2 c = search rules

down-requires-2 : tie.Need-down-requires-in-IV-combination-2
down-requires-2 c κs = search rules

enum-told-9 : tie.Need-enum_told-in-RK
enum-told-9 c = search rules

returns : tie.Need-returns-in-I
unfolding Limit TippingLimit
returns c =
    let a = c.args in
    rw c.in-I.is (of_tipping (λ k. Limit I k a.base 200) refl refl a.check c.in-OP.in-OP-own.keys1)

returns-2 : tie.Need-returns-in-II
unfolding Limit TippingLimit
returns-2 c =
    let a = c.args in
    of_tipping (λ k. Limit a.combination k a.base 150) (of_second_third (λ j. Limit j OP a.base 150) refl refl a.combination c.in-II.in-II-own.keys2) (of_second_third (λ j. Limit j OM a.base 150) refl refl a.combination c.in-II.in-II-own.keys2) a.check c.in-OP.in-OP-own.keys1

returns-3 : tie.Need-returns-in-IV
unfolding HasCheck Limit TippingLimit
returns-3 c =
    let a = c.args in
    absurd (of_tipping (λ k. HasCheck IV k a.base → ⊥) (λ h. h.1) (λ h. h.1) a.check c.in-OP.in-OP-own.keys1 (subst (λ (j : Combination). HasCheck j a.check a.base) c.in-IV.is c.requires.1))

returns-4 : tie.Need-returns-in-I-combination
unfolding Limit SlidingLimit
returns-4 c = rw (c.in-I-combination.is, c.in-SL.is) refl

returns-5 : tie.Need-returns-in-II-combination
unfolding Limit SlidingLimit
returns-5 c =
    let a = c.args in
    rw c.in-SL.is (of_second_third (λ j. Limit j SL a.base 125) refl refl a.combination c.in-II-combination.in-II-combination-own.keys2)

returns-6 : tie.Need-returns-in-IV-combination
unfolding HasCheck Limit SlidingLimit
returns-6 c =
    let a = c.args in
    absurd (subst (λ (j : Combination). HasCheck j SL a.base) c.in-IV-combination.is (subst (λ (k : Check). HasCheck a.combination k a.base) c.in-SL.is c.requires.1)).1

returns-7 : tie.Need-returns-in-I-combination-2
unfolding Limit PressureLimit
returns-7 c = rw (c.in-I-combination-2.is, c.in-PR.is) refl

returns-8 : tie.Need-returns-in-II-combination-2
unfolding Limit PressureLimit
returns-8 c =
    let a = c.args in
    rw c.in-PR.is (of_second_third (λ j. Limit j PR a.base c.down.result.value) c.down.ensures.rounded c.down.ensures.rounded a.combination c.in-II-combination-2.in-II-combination-2-own.keys2)

returns-9 : tie.Need-returns-in-IV-combination-2
unfolding Limit PressureLimit
returns-9 c = rw (c.in-IV-combination-2.is, c.in-PR.is) c.down-in-IV-combination-2.ensures.rounded

returns-10 : tie.Need-returns-in-RK
unfolding Limit HasCheck
returns-10 c =
    let a = c.args in
    rw c.in-RK.is ((subst (λ (k : Check). HasCheck a.combination k a.base) c.in-RK.is c.requires.1).1.0, refl)

pub limit_of_spec : {M : Type 1} → statement M
limit_of_spec = tie.close (tie.spec enum_told enum-told-2 enum-told-3 enum-told-4 enum-told-5 enum-told-6 enum-told-7 mul-down down-requires enum-told-8 mul-down-2 down-requires-2 enum-told-9 returns returns-2 returns-3 returns-4 returns-5 returns-6 returns-7 returns-8 returns-9 returns-10)
