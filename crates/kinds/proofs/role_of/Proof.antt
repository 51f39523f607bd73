-- B, S and C have a role each. The fourteen kinds of the last arm are all load rows, so which of them came does not matter.
use mathlib.Core.Path.{refl, sym, ap}
use mathlib.Core.List.{[], ◌∷◌}
use borrow.Author.Rules.{rules}
use Rattle.kinds.specs.Table.{role}
use Rattle.kinds.specs.declared.Kind.TheVariants.{E, W, G, DL, EP, LL, LF, CF, WC, BU, TM, EX, WL, SF}
use Rattle.kinds.specs.declared.Role.TheVariants.{Load}
use Rattle.kinds.proofs.Arms.{kind_arm}
use Rattle.kinds.proofs.role_of.Statement.{statement}
use Rattle.kinds.proofs.role_of.Tie as tie

enum_told : tie.Need-enum_told-1
enum_told c = search rules

enum-told-2 : tie.Need-enum_told-in-S
enum-told-2 c = search rules

enum-told-3 : tie.Need-enum_told-in-C
enum-told-3 c = search rules

returns : tie.Need-returns-in-B
returns c = ap role (sym c.in-B.is)

returns-2 : tie.Need-returns-in-S
returns-2 c = ap role (sym c.in-S.is)

returns-3 : tie.Need-returns-in-C
returns-3 c = ap role (sym c.in-C.is)

returns-4 : tie.Need-returns-in-E
returns-4 c = kind_arm role Load (E ∷ W ∷ G ∷ DL ∷ EP ∷ LL ∷ LF ∷ CF ∷ WC ∷ BU ∷ TM ∷ EX ∷ WL ∷ SF ∷ []) c.args.kind refl c.in-E.in-E-own.keys4

pub role_of_spec : {M : Type 1} → statement M
role_of_spec = tie.close (tie.spec enum_told enum-told-2 enum-told-3 returns returns-2 returns-3 returns-4)
