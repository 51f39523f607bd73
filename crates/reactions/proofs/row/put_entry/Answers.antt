-- A comma, the minus of a number below zero and its digits, one behind the other; a number that is absent leaves the comma alone.
use Prim.Native.Nat.{ℕ}
use mathlib.Core.Path.{ap, ◌∙◌}
use Rattle.block.specs.Decimal.{decimal}
use Rattle.block.specs.Block.{puts}
use Rattle.block.proofs.Pages.{then}
use Rattle.reactions.proofs.row.put_entry.Goals as goal
use Rattle.reactions.proofs.row.put_entry.Goals.{then-entry-2, else-entry-2}

pub returns-after-entry-2 : goal.returns-after-entry-2
returns-after-entry-2 c =
    let digits = c.put_decimal.ensures ∙ ap (λ (n : ℕ). puts c.if-entry-2.page (decimal n)) c.from.ensures in
    elim c.if-entry-2.branch [
      | then-entry-2 w ↦ rw (c.if-entry.true, w.if-entry-2.true) (then _ _ _ _ _ c.push.ensures (then _ _ _ _ _ (w.page-is ∙ w.push-then-entry-2.ensures) digits))
      | else-entry-2 w ↦ rw (c.if-entry.true, w.if-entry-2.false) (then _ _ _ _ _ (w.page-is ∙ c.push.ensures) digits)
    ]
