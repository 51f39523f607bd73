-- What is read of a cell's stretch holds of its content, which is one; so a cell outside its form or its range leaves no fill.
use Rattle.fills.specs.faults.Faults.{count}
use Rattle.fills.proofs.faults.Columns.{no_member_in, no_soil_in, no_slope_in, no_value_in, fill_in}
use Rattle.fills.proofs.fill_rows.fill_of.Goals as goal

pub returns-then-cells-ne5 : goal.returns-then-cells-ne5
returns-then-cells-ne5 c = λ cs many t fs. count many c.if-cells-ne5.true

pub returns-in_default : goal.returns-in_default
returns-in_default c = λ cs many t fs. no_member_in (t c.if-cells-ne5.false) c.cell.ensures c.in_default.ensures

pub returns-in_default-number_to : goal.returns-in_default-number_to
returns-in_default-number_to c = λ cs many t fs.
    no_soil_in (t c.if-cells-ne5.false) c.cell.ensures c.in-Some.ensures c.cell-2.ensures c.in_default-number_to.ensures

pub returns-in_default-number_to-2 : goal.returns-in_default-number_to-2
returns-in_default-number_to-2 c = λ cs many t fs.
    no_slope_in (t c.if-cells-ne5.false) c.cell.ensures c.in-Some.ensures c.cell-2.ensures c.in-Some-number_to.ensures c.cell-3.ensures c.in_default-number_to-2.ensures

pub returns-in_default-number_to-3 : goal.returns-in_default-number_to-3
returns-in_default-number_to-3 c = λ cs many t fs.
    no_value_in (t c.if-cells-ne5.false) c.cell.ensures c.in-Some.ensures c.cell-2.ensures c.in-Some-number_to.ensures c.cell-3.ensures c.in-Some-number_to-2.ensures c.cell-4.ensures c.in_default-number_to-3.ensures

pub returns : goal.returns
returns c = λ cs many t.
    fill_in (t c.if-cells-ne5.false) c.cell.ensures c.in-Some.ensures c.cell-2.ensures c.in-Some-number_to.ensures c.cell-3.ensures c.in-Some-number_to-2.ensures c.cell-4.ensures c.in-Some-number_to-3.ensures
