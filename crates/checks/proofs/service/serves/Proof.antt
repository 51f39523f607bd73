-- I to III have a factor against overturning, and IV has none.
use borrow.Author.Rules.{rules}
use mathlib.Core.Path.{refl, subst}
use mathlib.Core.List.{[], ◌∷◌}
use Rattle.sets.specs.declared.Combination.TheVariants.{I, II, III}
use Rattle.sets.proofs.Arms.{combination_arm}
use Rattle.checks.specs.limits.Limits.{TippingLimit}
use Rattle.checks.specs.service.Service.{Service}
use Rattle.checks.proofs.service.serves.Statement.{statement}
use Rattle.checks.proofs.service.serves.Tie as tie

enum_told : tie.Need-enum_told-1
enum_told c = search rules

returns : tie.Need-returns-in-I
unfolding Service TippingLimit
returns c = combination_arm Service (I ∷ II ∷ III ∷ []) c.args.combination ((200, refl), ((150, refl), (150, refl))) c.in-I.in-I-own.keys1

returns-2 : tie.Need-returns-in-IV
unfolding Service TippingLimit
returns-2 c = λ h. (subst Service c.in-IV.is h).1

pub serves_spec : {M : Type 1} → statement M
serves_spec = tie.close (tie.spec enum_told returns returns-2)
