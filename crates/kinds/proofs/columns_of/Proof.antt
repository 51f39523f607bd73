-- B, S, C, E, W and G have columns of their own. LF and CF share theirs, and so do the nine other kinds of the table's last line, which `kind_arm` shows of
-- their lists.
use mathlib.Core.Path.{refl, sym, ap}
use mathlib.Core.List.{[], ◌∷◌}
use borrow.Author.Rules.{rules}
use Rattle.kinds.specs.Table.{columns, load_columns}
use Rattle.kinds.specs.declared.Column.TheVariants.{Empty, Filled}
use Rattle.kinds.specs.declared.Kind.TheVariants.{DL, EP, LL, LF, CF, WC, BU, TM, EX, WL, SF}
use Rattle.kinds.proofs.Arms.{kind_arm}
use Rattle.kinds.proofs.columns_of.Statement.{statement}
use Rattle.kinds.proofs.columns_of.Tie as tie

enum_told : tie.Need-enum_told-1
enum_told c = search rules

enum-told-2 : tie.Need-enum_told-in-S
enum-told-2 c = search rules

enum-told-3 : tie.Need-enum_told-in-C
enum-told-3 c = search rules

enum-told-4 : tie.Need-enum_told-in-E
enum-told-4 c = search rules

enum-told-5 : tie.Need-enum_told-in-W
enum-told-5 c = search rules

enum-told-6 : tie.Need-enum_told-in-G
enum-told-6 c = search rules

returns : tie.Need-returns-in-B
returns c = sym (ap columns c.in-B.is)

returns-2 : tie.Need-returns-in-S
returns-2 c = sym (ap columns c.in-S.is)

returns-3 : tie.Need-returns-in-C
returns-3 c = sym (ap columns c.in-C.is)

returns-4 : tie.Need-returns-in-E
returns-4 c = sym (ap columns c.in-E.is)

returns-5 : tie.Need-returns-in-W
returns-5 c = sym (ap columns c.in-W.is)

returns-6 : tie.Need-returns-in-G
returns-6 c = sym (ap columns c.in-G.is)

returns-7 : tie.Need-returns-in-LF
returns-7 c = kind_arm columns (load_columns (Filled 1 16)) (LF ∷ CF ∷ []) c.args.kind refl c.in-LF.in-LF-own.keys7

returns-8 : tie.Need-returns-in-DL
returns-8 c = kind_arm columns (load_columns Empty) (DL ∷ EP ∷ LL ∷ WC ∷ BU ∷ TM ∷ EX ∷ WL ∷ SF ∷ []) c.args.kind refl c.in-DL.in-DL-own.keys8

pub columns_of_spec : {M : Type 1} → statement M
columns_of_spec = tie.close (tie.spec enum_told enum-told-2 enum-told-3 enum-told-4 enum-told-5 enum-told-6 returns returns-2 returns-3 returns-4 returns-5 returns-6 returns-7 returns-8)
