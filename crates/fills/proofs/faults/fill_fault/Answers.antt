-- A book whose fills are given is a fill book; and the reading of another says where its refusal lies.
use Rattle.fills.proofs.faults.Lying.{lies_of}
use Rattle.fills.proofs.faults.fill_fault.Goals as goal

pub returns : goal.returns
returns c = rw c.err.ensures.value (lies_of _ c.read_rows.result c.read_rows.ensures)
