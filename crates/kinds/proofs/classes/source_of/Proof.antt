-- An arm of several kinds has one source for all: none for B, S and C, the row's own numbers for the eleven of the table's last line.
use borrow.Author.Rules.{rules}
use mathlib.Core.Path.{refl, sym, ap}
use mathlib.Core.List.{[], ◌∷◌}
use Rattle.kinds.specs.declared.Kind.TheVariants.{B, S, C, DL, EP, LL, LF, CF, WC, BU, TM, EX, WL, SF}
use Rattle.kinds.specs.declared.classes.Source.TheVariants.{Absent, Own}
use Rattle.kinds.specs.classes.Classes.{source}
use Rattle.kinds.proofs.Arms.{kind_arm}
use Rattle.kinds.proofs.classes.source_of.Statement.{statement}
use Rattle.kinds.proofs.classes.source_of.Tie as tie

enum_told : tie.Need-enum_told-1
enum_told c = search rules

enum-told-2 : tie.Need-enum_told-in-W
enum-told-2 c = search rules

enum-told-3 : tie.Need-enum_told-in-G
enum-told-3 c = search rules

returns : tie.Need-returns-in-B
unfolding source
returns c = kind_arm source Absent (B ∷ S ∷ C ∷ []) c.args.kind refl c.in-B.in-B-own.keys1

returns-2 : tie.Need-returns-in-E
unfolding source
returns-2 c = sym (ap source c.in-E.is)

returns-3 : tie.Need-returns-in-W
unfolding source
returns-3 c = sym (ap source c.in-W.is)

returns-4 : tie.Need-returns-in-G
unfolding source
returns-4 c = sym (ap source c.in-G.is)

returns-5 : tie.Need-returns-in-DL
unfolding source
returns-5 c = kind_arm source Own (DL ∷ EP ∷ LL ∷ LF ∷ CF ∷ WC ∷ BU ∷ TM ∷ EX ∷ WL ∷ SF ∷ []) c.args.kind refl c.in-DL.in-DL-own.keys5

pub source_of_spec : {M : Type 1} → statement M
source_of_spec = tie.close (tie.spec enum_told enum-told-2 enum-told-3 returns returns-2 returns-3 returns-4 returns-5)
