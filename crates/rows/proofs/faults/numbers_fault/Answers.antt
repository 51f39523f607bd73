-- The columns are asked from the left, so the first that is wrong is told; and if none is, the row has its numbers.
use Rattle.std.proofs.Common.{ap, refl, below_more, arith}
use Rattle.kinds.specs.Table.{columns, six_of}
use Rattle.rows.specs.faults.steps.Columns.{held, wrong}
use Rattle.rows.proofs.faults.Columns.{six_numbers, number_right, number_wrong}
use Rattle.rows.proofs.faults.numbers_fault.Goals as goal

pub loop-i-init : goal.loop-i-init
loop-i-init c = record { six = ap six_of c.columns_of-c.ensures; held = λ cs t j l. absurd (omega arith); clear = λ cs t written clear. clear }

pub loop-i-preserved : goal.loop-i-preserved
loop-i-preserved c =
    let inv = c.loop-i.invariant in
    record {
      six = inv.six;
      held = λ cs t. below_more _ _ (inv.held cs t) (c.if-not-has_form.ensures cs t (omega arith));
      clear = λ cs t written clear. number_right c.args.kind written _ inv.six c.loop-i.i (omega arith) (inv.clear cs t written clear) (c.if-not-has_form.ensures cs t (omega arith));
    }

pub returns-then-not-has_form : goal.returns-then-not-has_form
returns-then-not-has_form c = λ cs t written clear.
    let inv = c.loop-i.invariant in
    wrong refl (number_wrong c.args.kind written _ inv.six c.loop-i.i (omega arith) (inv.clear cs t written clear) (c.if-not-has_form.ensures cs t (omega arith)))

pub returns : goal.returns
returns c = λ cs t written clear.
    let inv = c.loop-i.invariant in
    let w = six_numbers (columns c.args.kind) cs _ inv.six (λ j l. inv.held cs t j (omega arith)) in
    held refl w.1
