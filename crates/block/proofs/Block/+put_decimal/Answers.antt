-- The digits of a tenth of the number first, then its last one.
use mathlib.Core.Path.{ap, ◌∙◌}
use Rattle.block.specs.declared.Block.{Block}
use Rattle.block.specs.Decimal.{last_digit}
use Rattle.block.specs.Block.{puts}
use Rattle.block.proofs.Pages.{decimal_last, decimal_next}
use Rattle.block.proofs.Block.+put_decimal.Goals as goal
use Rattle.block.proofs.Block.+put_decimal.Goals.{then-n-ge10, else-n-ge10}

pub returns : goal.returns
returns t c =
    elim c.if-n-ge10.branch [
      | then-n-ge10 w ↦ decimal_next _ _ _ _ w.if-n-ge10.true (w.self-is ∙ w.put_decimal.ensures) c.push.ensures
      | else-n-ge10 w ↦ decimal_last _ _ _ w.if-n-ge10.false (c.push.ensures ∙ ap (λ (b : Block). puts b (last_digit c.args.n)) w.self-is)
    ]
