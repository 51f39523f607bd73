-- What is read of a cell's stretch holds of its content, which is one; so a cell without a name or a kind leaves no form. The numbers are asked by the
-- columns of the kind that was read, and no other kind is written with those letters.
use Rattle.std.proofs.Common.{arith, refl}
use Rattle.rows.specs.Answer.{first_ten}
use Rattle.rows.proofs.Forms.{ten_cells, member_is, job_is}
use Rattle.rows.proofs.Reading.{cell_name, cell_no_name, cell_kind, no_numbers}
use Rattle.rows.proofs.row_of.Goals as goal

pub returns-in_err-numbers : goal.returns-in_err-numbers
returns-in_err-numbers c = λ cs e f.
    let t = f (omega arith) in
    rw c.from_residual-in_err-numbers.ensures (no_numbers c.in_ok-kind.kind cs (cell_kind t 2 _ (omega arith) c.cell.ensures c.in_ok-kind.kind c.in_ok-kind.ensures) (c.in_err-numbers.ensures cs t))

pub returns-in_err-member : goal.returns-in_err-member
returns-in_err-member c = λ cs e f.
    let t = f (omega arith) in
    rw c.from_residual-in_err-member.ensures (λ b w. cell_no_name t 0 _ (omega arith) c.cell-2.ensures c.in_err-member.ensures b.keyed.key.member (member_is w))

pub returns-in_err-job : goal.returns-in_err-job
returns-in_err-job c = λ cs e f.
    let t = f (omega arith) in
    rw c.from_residual-in_err-job.ensures (λ b w. cell_no_name t 1 _ (omega arith) c.cell-3.ensures c.in_err-job.ensures b.keyed.key.job (job_is w))

pub returns : goal.returns
returns c = λ cs e f.
    let t = f (omega arith) in
    record {
      ten = first_ten cs;
      are = ten_cells cs t.so_many;
      member = cell_name t 0 _ (omega arith) c.cell-2.ensures c.in_ok-member.member c.in_ok-member.ensures;
      job = cell_name t 1 _ (omega arith) c.cell-3.ensures c.in_ok-job.job c.in_ok-job.ensures;
      kind = cell_kind t 2 _ (omega arith) c.cell.ensures c.in_ok-kind.kind c.in_ok-kind.ensures;
      numbers = c.in_ok-numbers.ensures cs t;
      note = refl;
    }
