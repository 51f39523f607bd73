-- Each cell holds a number by its column exactly if it was read to hold one, and the six are numbers if each is.
use Rattle.std.proofs.Common.{subst, arith}
use Rattle.kinds.specs.declared.Columns.{Columns}
use Rattle.rows.specs.Form.{Six}
use Rattle.rows.specs.Answer.{first_ten}
use Rattle.rows.proofs.Reading.{cell_entry, cell_no_entry, no_six}
use Rattle.rows.proofs.numbers_of.Goals as goal

pub returns-in_err-n1 : goal.returns-in_err-n1
returns-in_err-n1 c = λ cs t. no_six c.args.kind cs c.columns_of-columns.ensures c.from_residual.ensures (λ m w. cell_no_entry t 3 _ (omega arith) c.cell.ensures c.columns_of-columns.result.n1 c.in_err-n1.ensures m.n1 w.n1)

pub returns-in_err-n2 : goal.returns-in_err-n2
returns-in_err-n2 c = λ cs t. no_six c.args.kind cs c.columns_of-columns.ensures c.from_residual-in_err-n2.ensures (λ m w. cell_no_entry t 4 _ (omega arith) c.cell-2.ensures c.columns_of-columns.result.n2 c.in_err-n2.ensures m.n2 w.n2)

pub returns-in_err-n3 : goal.returns-in_err-n3
returns-in_err-n3 c = λ cs t. no_six c.args.kind cs c.columns_of-columns.ensures c.from_residual-in_err-n3.ensures (λ m w. cell_no_entry t 5 _ (omega arith) c.cell-3.ensures c.columns_of-columns.result.n3 c.in_err-n3.ensures m.n3 w.n3)

pub returns-in_err-n4 : goal.returns-in_err-n4
returns-in_err-n4 c = λ cs t. no_six c.args.kind cs c.columns_of-columns.ensures c.from_residual-in_err-n4.ensures (λ m w. cell_no_entry t 6 _ (omega arith) c.cell-4.ensures c.columns_of-columns.result.n4 c.in_err-n4.ensures m.n4 w.n4)

pub returns-in_err-n5 : goal.returns-in_err-n5
returns-in_err-n5 c = λ cs t. no_six c.args.kind cs c.columns_of-columns.ensures c.from_residual-in_err-n5.ensures (λ m w. cell_no_entry t 7 _ (omega arith) c.cell-5.ensures c.columns_of-columns.result.n5 c.in_err-n5.ensures m.n5 w.n5)

pub returns-in_err-n6 : goal.returns-in_err-n6
returns-in_err-n6 c = λ cs t. no_six c.args.kind cs c.columns_of-columns.ensures c.from_residual-in_err-n6.ensures (λ m w. cell_no_entry t 8 _ (omega arith) c.cell-6.ensures c.columns_of-columns.result.n6 c.in_err-n6.ensures m.n6 w.n6)

pub returns : goal.returns
returns c = λ cs t.
    let k = c.columns_of-columns.result in
    subst (λ (j : Columns). Six j (first_ten cs) (record { n1 = c.in_ok-n1.n1; n2 = c.in_ok-n2.n2; n3 = c.in_ok-n3.n3; n4 = c.in_ok-n4.n4; n5 = c.in_ok-n5.n5; n6 = c.in_ok-n6.n6 })) c.columns_of-columns.ensures (record {
      n1 = cell_entry t 3 _ (omega arith) c.cell.ensures k.n1 c.in_ok-n1.n1 c.in_ok-n1.ensures;
      n2 = cell_entry t 4 _ (omega arith) c.cell-2.ensures k.n2 c.in_ok-n2.n2 c.in_ok-n2.ensures;
      n3 = cell_entry t 5 _ (omega arith) c.cell-3.ensures k.n3 c.in_ok-n3.n3 c.in_ok-n3.ensures;
      n4 = cell_entry t 6 _ (omega arith) c.cell-4.ensures k.n4 c.in_ok-n4.n4 c.in_ok-n4.ensures;
      n5 = cell_entry t 7 _ (omega arith) c.cell-5.ensures k.n5 c.in_ok-n5.n5 c.in_ok-n5.ensures;
      n6 = cell_entry t 8 _ (omega arith) c.cell-6.ensures k.n6 c.in_ok-n6.n6 c.in_ok-n6.ensures;
    })
