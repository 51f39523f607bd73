-- W and G rows have their phase in n6. The fifteen kinds of the other arm all have it in n5, so which of them came does not matter.
use mathlib.Core.Path.{refl}
use mathlib.Core.List.{[], ◌∷◌}
use Rattle.kinds.specs.Table.{phase}
use Rattle.kinds.specs.declared.Kind.TheVariants.{B, S, C, E, W, G, DL, EP, LL, LF, CF, WC, BU, TM, EX, WL, SF}
use Rattle.kinds.proofs.Arms.{kind_arm}
use Rattle.kinds.proofs.phase_of.Statement.{statement}
use Rattle.kinds.proofs.phase_of.Tie as tie

returns : tie.Need-returns-in-W
returns c =
    let row = c.args.row in
    kind_arm (λ k. phase k row.numbers) row.numbers.n6.size (W ∷ G ∷ []) row.kind refl c.in-W.in-W-own.keys1

returns-2 : tie.Need-returns-in-B
returns-2 c =
    let row = c.args.row in
    kind_arm (λ k. phase k row.numbers) row.numbers.n5.size (B ∷ S ∷ C ∷ E ∷ DL ∷ EP ∷ LL ∷ LF ∷ CF ∷ WC ∷ BU ∷ TM ∷ EX ∷ WL ∷ SF ∷ []) row.kind refl c.in-B.in-B-own.keys2

pub phase_of_spec : {M : Type 1} → statement M
phase_of_spec = tie.close (tie.spec returns returns-2)
