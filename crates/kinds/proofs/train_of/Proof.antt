-- LF and CF have their train in n6, and the fifteen kinds of the other arm have none, so which of them came does not matter.
use mathlib.Core.Path.{refl}
use mathlib.Core.List.{[], ◌∷◌}
use Rattle.kinds.specs.Table.{train}
use Rattle.kinds.specs.declared.Kind.TheVariants.{B, S, C, E, W, G, DL, EP, LL, LF, CF, WC, BU, TM, EX, WL, SF}
use Rattle.kinds.proofs.Arms.{kind_arm}
use Rattle.kinds.proofs.train_of.Statement.{statement}
use Rattle.kinds.proofs.train_of.Tie as tie

returns : tie.Need-returns-in-LF
returns c =
    let row = c.args.row in
    kind_arm (λ k. train k row.numbers) row.numbers.n6.size (LF ∷ CF ∷ []) row.kind refl c.in-LF.in-LF-own.keys1

returns-2 : tie.Need-returns-in-B
returns-2 c =
    let row = c.args.row in
    kind_arm (λ k. train k row.numbers) 0 (B ∷ S ∷ C ∷ E ∷ W ∷ G ∷ DL ∷ EP ∷ LL ∷ WC ∷ BU ∷ TM ∷ EX ∷ WL ∷ SF ∷ []) row.kind refl c.in-B.in-B-own.keys2

pub train_of_spec : {M : Type 1} → statement M
train_of_spec = tie.close (tie.spec returns returns-2)
