-- Each spot takes the bytes that its tests name, and those that follow a field where one may end.
use Rattle.std.proofs.Common.{subst, sym}
use Rattle.csv_text.specs.steps.NextSpot.{opens, begins_plain, more_plain, doubles, ends_row, NextSpot}
use Rattle.csv_text.specs.declared.strays.Spot.{Spot}
use Rattle.csv_text.proofs.strays.Taking.{start_next, plain_next, closed_next}
use Rattle.csv_text.proofs.strays.next_spot.Goals as goal

pub returns-in-Start : goal.returns-in-Start
returns-in-Start c = rw c.in-Start.is (opens c.if-b-eq34.true)

pub returns-in-Start-2 : goal.returns-in-Start-2
returns-in-Start-2 c = rw c.in-Start.is (begins_plain c.if-is_text.ensures)

pub returns-in-Start-3 : goal.returns-in-Start-3
returns-in-Start-3 c = subst (λ (x : Spot). NextSpot x c.args.b c.ended.result) (sym c.in-Start.is) (start_next _ c.if-b-eq34.false c.if-is_text.ensures c.ended.ensures)

pub returns-in-Plain : goal.returns-in-Plain
returns-in-Plain c = rw c.in-Plain.is (more_plain c.if-is_text-2.ensures)

pub returns-in-Plain-2 : goal.returns-in-Plain-2
returns-in-Plain-2 c = subst (λ (x : Spot). NextSpot x c.args.b c.ended-in-Plain-2.result) (sym c.in-Plain.is) (plain_next _ c.if-is_text-2.ensures c.ended-in-Plain-2.ensures)

pub returns-in-Closed : goal.returns-in-Closed
returns-in-Closed c = rw c.in-Closed.is (doubles c.if-b-eq34-2.true)

pub returns-in-Closed-2 : goal.returns-in-Closed-2
returns-in-Closed-2 c = subst (λ (x : Spot). NextSpot x c.args.b c.ended-in-Closed-2.result) (sym c.in-Closed.is) (closed_next _ c.if-b-eq34-2.false c.ended-in-Closed-2.ensures)

pub returns-in-Return : goal.returns-in-Return
returns-in-Return c = rw c.in-Return.is (ends_row c.if-b-eq10.true)
