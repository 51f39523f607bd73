-- Each column that has its form is not wrong, so the first that has not is told; a row with its names and its kind is what its numbers say.
use Rattle.std.proofs.Common.{◌≡◌, List, length, arith, refl}
use Rattle.std.specs.Prelude.{Option}
use Rattle.csv_text.specs.rfc4180.Rfc4180.{Cell}
use Rattle.csv_text.specs.cells.Standing.{raw}
use Rattle.csv_text.specs.cells.Content.{content}
use Rattle.csv_text.proofs.cells.Standing.{standing}
use Rattle.fields.specs.names.Names.{NameOf}
use Rattle.fields.specs.declared.names.Name.{Name}
use Rattle.kinds.specs.Table.{letters}
use Rattle.kinds.specs.declared.Kind.{Kind}
use Rattle.rows.specs.Answer.{first_ten}
use Rattle.rows.specs.faults.Faults.{member, job, kind, RowSays, sound, column}
use Rattle.rows.specs.faults.steps.Columns.{Clear, NumbersSay, held, wrong}
use Rattle.rows.specs.declared.faults.RowFault.{RowFault}
use Rattle.rows.proofs.Forms.{ten_cells}
use Rattle.rows.proofs.Reading.{cell_name, cell_no_name, cell_kind, cell_no_kind}
use Rattle.rows.proofs.faults.Columns.{clear_first, clear_next, first_wrong, right_member, right_job, right_kind}
use Rattle.rows.proofs.faults.fault_at.Goals as goal

-- with its names and its kind, a row is what its numbers say
row_told : {cs : List Cell} {of : Kind} {t : Option RowFault} {m j : Name} → length cs ≡ 10 → NameOf (content cs 0) m → NameOf (content cs 1) j → content cs 2 ≡ letters of → NumbersSay cs of t → RowSays cs t
row_told {cs} {of} {m = m} {j} l named worked written (held {n} e six) =
    sound {r = record { keyed = record { key = record { member = m; job = j }; row = record { kind = of; numbers = n } }; note = raw cs 9 }} e (record {
      ten = first_ten cs;
      are = ten_cells cs l;
      member = named;
      job = worked;
      kind = written;
      numbers = six;
      note = refl;
    })
row_told l named worked written (wrong e w) = column e l w

-- with its names, no column before the kind's is wrong
clear_names : {cs : List Cell} {m j : Name} → NameOf (content cs 0) m → NameOf (content cs 1) j → Clear cs 3
clear_names named worked = clear_next 2 (clear_next 1 clear_first (right_member _ named)) (right_job _ worked)

pub returns-in_default : goal.returns-in_default
returns-in_default c = λ cs css q.
    let t = standing c.cells_at-cells.ensures cs css q (omega arith) c.if-cells-ne10.false in
    column refl t.so_many (first_wrong clear_first (member refl (cell_no_name t 0 _ (omega arith) c.cell.ensures c.in_default.ensures)))

pub returns-in_default-name_at : goal.returns-in_default-name_at
returns-in_default-name_at c = λ cs css q.
    let t = standing c.cells_at-cells.ensures cs css q (omega arith) c.if-cells-ne10.false in
    let named = cell_name t 0 _ (omega arith) c.cell.ensures c.in-Some._member c.in-Some.ensures in
    column refl t.so_many (first_wrong (clear_next 1 clear_first (right_member _ named)) (job refl (cell_no_name t 1 _ (omega arith) c.cell-2.ensures c.in_default-name_at.ensures)))

pub returns-in_default-kind_at : goal.returns-in_default-kind_at
returns-in_default-kind_at c = λ cs css q.
    let t = standing c.cells_at-cells.ensures cs css q (omega arith) c.if-cells-ne10.false in
    let named = cell_name t 0 _ (omega arith) c.cell.ensures c.in-Some._member c.in-Some.ensures in
    let worked = cell_name t 1 _ (omega arith) c.cell-2.ensures c.in-Some-name_at._job c.in-Some-name_at.ensures in
    column refl t.so_many (first_wrong (clear_names named worked) (kind refl (cell_no_kind t 2 _ (omega arith) c.cell-3.ensures c.in_default-kind_at.ensures)))

pub returns : goal.returns
returns c = λ cs css q.
    let t = standing c.cells_at-cells.ensures cs css q (omega arith) c.if-cells-ne10.false in
    let named = cell_name t 0 _ (omega arith) c.cell.ensures c.in-Some._member c.in-Some.ensures in
    let worked = cell_name t 1 _ (omega arith) c.cell-2.ensures c.in-Some-name_at._job c.in-Some-name_at.ensures in
    let written = cell_kind t 2 _ (omega arith) c.cell-3.ensures c.in-Some-kind_at.kind c.in-Some-kind_at.ensures in
    row_told t.so_many named worked written (c.numbers_fault.ensures cs t written (clear_next 3 (clear_names named worked) (right_kind c.in-Some-kind_at.kind written)))
