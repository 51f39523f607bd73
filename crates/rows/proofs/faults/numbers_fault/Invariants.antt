-- The columns passed have their forms, so none of them is wrong.
use Rattle.std.proofs.Common.{◌≡◌, ◌+◌, List}
use Rattle.csv_text.specs.rfc4180.Rfc4180.{Cell}
use Rattle.csv_text.specs.cells.Standing.{Standing}
use Rattle.csv_text.specs.cells.Content.{content}
use Rattle.kinds.specs.Table.{columns, letters, six_of}
use Rattle.rows.specs.faults.steps.Columns.{Clear}
use Rattle.rows.proofs.faults.Columns.{HeldTo}
use Rattle.rows.proofs.faults.numbers_fault.Given as goal

abbrev pub invariant-loop-i : goal.invariant-loop-i
invariant-loop-i l = record {
  six : l.column-items ≡ six_of (columns l.fn.kind);
  held : (cs : List Cell) → Standing 10 l.s l.cells cs → HeldTo l.column-items l.i cs;
  clear : (cs : List Cell) → Standing 10 l.s l.cells cs → content cs 2 ≡ letters l.fn.kind → Clear cs 4 → Clear cs (4 + l.i);
}
