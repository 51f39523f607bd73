-- The smaller is taken from the larger, so no step goes below zero, and the sign says which it was; equal numbers give no minus.
use Rattle.arithmetic.proofs.signed.Laws.{amount_low, amount_high}
use Rattle.arithmetic.proofs.signed.difference.Goals as goal

pub returns-then-a-b : goal.returns-then-a-b
returns-then-a-b c = amount_low _ _ c.if-a-b.true

pub returns : goal.returns
returns c = amount_high _ _ c.if-a-b.false
