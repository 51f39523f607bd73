-- The phase decides first: a row that does not act is in no set, and one that acts is what its class makes it. A permanent or free row is the same
-- to every combination; for WL and SF the combination is looked at too, as in the lines of `by_class`.
use borrow.Author.Rules.{rules}
use mathlib.Core.Path.{◌≡◌, refl, sym, ◌∙◌, ap}
use mathlib.Core.List.{[], ◌∷◌}
use Rattle.arithmetic.proofs.Deciding.{decided, refuted}
use Rattle.sets.specs.declared.Class.TheVariants.{Wind, Earthquake}
use Rattle.sets.specs.declared.Combination.TheVariants.{I, II, III, IV}
use Rattle.sets.proofs.Arms.{combination_arm}
use Rattle.worst.specs.declared.choices.Stance.TheVariants.{Never, Choosable}
use Rattle.worst.specs.steps.Stance.{by_class, stance_toward}
use Rattle.worst.proofs.choices.Rows.{stands_never, stands_acting}
use Rattle.worst.proofs.choices.stance_of.Statement.{statement}
use Rattle.worst.proofs.choices.stance_of.Tie as tie

-- a row that acts is what its class makes it
acting : (c : tie.Else-not-acts) → let a = c.args in by_class a.combination a.load.class ≡ stance_toward a.combination a.load
acting c =
    sym (stands_acting _ _ (decided c.acts.result c.if-not-acts.false c.acts.ensures))

acts-requires : tie.Need-acts-requires
acts-requires c κs = search rules

returns : tie.Need-returns-then-not-acts
returns c = sym (stands_never _ _ (refuted c.acts.result c.if-not-acts.true c.acts.ensures))

enum_told : tie.Need-enum_told-1
enum_told c = search rules

enum-told-2 : tie.Need-enum_told-in-Free
enum-told-2 c = search rules

enum-told-3 : tie.Need-enum_told-in-Wind
enum-told-3 c = search rules

enum-told-4 : tie.Need-enum_told-in-Earthquake
enum-told-4 c = search rules

returns-2 : tie.Need-returns-in-Permanent
unfolding by_class
returns-2 c = sym (ap (by_class _) c.in-Permanent.is) ∙ acting c.before

returns-3 : tie.Need-returns-in-Free
unfolding by_class
returns-3 c = sym (ap (by_class _) c.in-Free.is) ∙ acting c.before

returns-4 : tie.Need-returns-in-I
unfolding by_class
returns-4 c =
    sym (combination_arm (λ k. by_class k Wind ≡ Never) (I ∷ III ∷ []) c.args.combination (refl, refl) c.in-I.in-I-own.keys1) ∙ sym (ap (by_class _) c.in-Wind.is) ∙ acting c.before.before

returns-5 : tie.Need-returns-in-II
unfolding by_class
returns-5 c =
    sym (combination_arm (λ k. by_class k Wind ≡ Choosable) (II ∷ IV ∷ []) c.args.combination (refl, refl) c.in-II.in-II-own.keys2) ∙ sym (ap (by_class _) c.in-Wind.is) ∙ acting c.before.before

returns-6 : tie.Need-returns-in-I-combination
unfolding by_class
returns-6 c =
    sym (combination_arm (λ k. by_class k Earthquake ≡ Never) (I ∷ II ∷ []) c.args.combination (refl, refl) c.in-I-combination.in-I-combination-own.keys1) ∙ sym (ap (by_class _) c.in-Earthquake.is) ∙ acting c.before.before

returns-7 : tie.Need-returns-in-III
unfolding by_class
returns-7 c =
    sym (combination_arm (λ k. by_class k Earthquake ≡ Choosable) (III ∷ IV ∷ []) c.args.combination (refl, refl) c.in-III.in-III-own.keys2) ∙ sym (ap (by_class _) c.in-Earthquake.is) ∙ acting c.before.before

pub stance_of_spec : {M : Type 1} → statement M
stance_of_spec = tie.close (tie.spec acts-requires returns enum_told enum-told-2 enum-told-3 enum-told-4 returns-2 returns-3 returns-4 returns-5 returns-6 returns-7)
