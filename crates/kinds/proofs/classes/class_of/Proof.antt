-- The six kinds of the first arm are all permanent and the nine of the second all free, whichever of them it is; WL and SF have their own arms.
use borrow.Author.Rules.{rules}
use mathlib.Core.Path.{refl, sym, ap}
use mathlib.Core.List.{[], ◌∷◌}
use Rattle.kinds.specs.declared.Kind.TheVariants.{B, S, C, E, W, G, DL, EP, LL, LF, CF, WC, BU, TM, EX}
use Rattle.sets.specs.declared.Class.TheVariants.{Permanent, Free}
use Rattle.kinds.specs.classes.Classes.{class_of}
use Rattle.kinds.proofs.Arms.{kind_arm}
use Rattle.kinds.proofs.classes.class_of.Statement.{statement}
use Rattle.kinds.proofs.classes.class_of.Tie as tie

enum_told : tie.Need-enum_told-1
enum_told c = search rules

enum-told-2 : tie.Need-enum_told-in-SF
enum-told-2 c = search rules

returns : tie.Need-returns-in-B
unfolding class_of
returns c = kind_arm class_of Permanent (B ∷ S ∷ C ∷ E ∷ DL ∷ EP ∷ []) c.args.kind refl c.in-B.in-B-own.keys1

returns-2 : tie.Need-returns-in-W
unfolding class_of
returns-2 c = kind_arm class_of Free (W ∷ G ∷ LL ∷ LF ∷ CF ∷ WC ∷ BU ∷ TM ∷ EX ∷ []) c.args.kind refl c.in-W.in-W-own.keys2

returns-3 : tie.Need-returns-in-WL
unfolding class_of
returns-3 c = sym (ap class_of c.in-WL.is)

returns-4 : tie.Need-returns-in-SF
unfolding class_of
returns-4 c = sym (ap class_of c.in-SF.is)

pub class_of_spec : {M : Type 1} → statement M
class_of_spec = tie.close (tie.spec enum_told enum-told-2 returns returns-2 returns-3 returns-4)
