-- A row that has a form is the one that was read, so what is told of that one is told of it.
use Rattle.std.proofs.Common.{subst, ap}
use Rattle.rows.specs.Form.{BookRow}
use Rattle.rows.specs.Answer.{RowGiven}
use Rattle.rows.specs.declared.keys.Keyed.{Keyed}
use Rattle.rows.proofs.Forms.{form_one}
use Rattle.jobs.specs.misplaced.Placing.{PlacingIs}
use Rattle.book.proofs.faults.rule_at.Goals as goal

pub returns-in_err-row : goal.returns-in_err-row
returns-in_err-row c = λ cs css r file form. absurd (subst (RowGiven cs) c.in_err-row.was (c.read_row.ensures cs css file).means r form)

pub returns : goal.returns
returns c = λ cs css r file form.
    let read = subst (RowGiven cs) c.in_ok-row.was (c.read_row.ensures cs css file).means in
    subst (λ (k : Keyed). PlacingIs c.args.job k c.rule_of.result) (ap (λ (x : BookRow). x.keyed) (form_one read form)) c.rule_of.ensures
