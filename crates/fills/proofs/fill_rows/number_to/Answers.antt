-- A number is taken if it is not below zero, not zero and not past its bound.
use Rattle.std.proofs.Common.{arith}
use Rattle.fills.proofs.fill_rows.Cells.{wrong_number, no_number, a_number}
use Rattle.fills.proofs.fill_rows.number_to.Goals as goal
use Rattle.fills.proofs.fill_rows.number_to.Goals.{then-entry-via-then-entry, then-entry-via-else-entry+then-entry-eq0, then-entry-via-else-entry+else-entry-eq0+then-bound-entry}

pub returns-in_default : goal.returns-in_default
returns-in_default c = wrong_number _ c.in_default.ensures

pub returns-then-entry : goal.returns-then-entry
returns-then-entry c =
    elim c.then-entry.branch [
      | then-entry-via-then-entry w ↦ no_number _ c.in-Some.ensures (λ plus from to. cc)
      | then-entry-via-else-entry+then-entry-eq0 w ↦ no_number _ c.in-Some.ensures (λ plus from to. absurd (omega arith))
      | then-entry-via-else-entry+else-entry-eq0+then-bound-entry w ↦ no_number _ c.in-Some.ensures (λ plus from to. absurd (omega arith))
    ]

pub returns : goal.returns
returns c = a_number _ c.in-Some.ensures c.if-entry.false (omega (arith, c.if-entry-eq0.false)) c.if-bound-entry.false
