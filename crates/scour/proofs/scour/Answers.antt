-- What the columns give, which are in range, is told of the row.
use Rattle.std.proofs.Common.{subst}
use Rattle.arithmetic.proofs.Deciding.{decided, refuted}
use Rattle.scour.specs.Scour.{ScourRule}
use Rattle.scour.specs.ScourRow.{scour_told, out_of_range, in_range}
use Rattle.scour.specs.declared.Waterway.{Waterway}
use Rattle.scour.proofs.scour.Goals as goal

pub returns-then-not-is_ranged : goal.returns-then-not-is_ranged
returns-then-not-is_ranged c = out_of_range (refuted c.is_ranged.result c.if-not-is_ranged.true c.is_ranged.ensures)

pub returns : goal.returns
returns c =
    in_range (decided c.is_ranged.result c.if-not-is_ranged.false c.is_ranged.ensures)
    (subst (λ (row : Waterway). ScourRule row (scour_told c.scour_of.result)) c.from.ensures c.scour_of.ensures)
