-- A permanent row counts 0, and a row of any other class 1.
use native.Mathlib.Omega.{arith}
use mathlib.Core.Path.{◌≡◌, refl, sym, ap}
use mathlib.Core.Logic.{⊎_elim}
use mathlib.Core.List.{[], ◌∷◌}
use types.Run.{OneOf}
use denote.Enum.Declared.{tag_of}
use borrow.Author.Rules.{rules}
use Rattle.sets.specs.declared.Class.{Class}
use Rattle.sets.specs.declared.Class.TheVariants.{Permanent, Free, Wind, Earthquake}
use Rattle.sets.specs.contracts.Class.{the_type}
use Rattle.kinds.specs.classes.Classes.{optional}
use Rattle.kinds.proofs.classes.optional_count.Statement.{statement}
use Rattle.kinds.proofs.classes.optional_count.Tie as tie

-- a class that is not permanent, known by its place among the classes
counts_one : (c : Class) → OneOf (1 ∷ 2 ∷ 3 ∷ []) (tag_of the_type c) → 1 ≡ optional c
unfolding optional
counts_one Permanent t = ⊎_elim (λ e. absurd (omega arith)) (λ u. ⊎_elim (λ e. absurd (omega arith)) (λ e. absurd (omega arith)) u) t
counts_one Free t = refl
counts_one Wind t = refl
counts_one Earthquake t = refl

enum_told : tie.Need-enum_told-1
enum_told c = search rules

returns : tie.Need-returns-in-Permanent
unfolding optional
returns c = sym (ap optional c.in-Permanent.is)

returns-2 : tie.Need-returns-in-Free
returns-2 c = counts_one c.args.class c.in-Free.in-Free-own.keys2

pub optional_count_spec : {M : Type 1} → statement M
optional_count_spec = tie.close (tie.spec enum_told returns returns-2)
