-- V, x and H are the row's own numbers. y is not below zero, so H·y has the sign of H.
use Rattle.std.proofs.Common.{refl, sym, ◌∙◌, ap}
use lib.IntN.{ℤ, ◌*ℤ◌}
use Rattle.arithmetic.specs.signed.Whole.{amount}
use Rattle.kinds.specs.ranges.Range.{value}
use Rattle.loads.proofs.forces.Amounts.{signed_times, plain_value}
use Rattle.loads.proofs.forces.own_load.Goals as goal

pub returns : goal.returns
returns c =
    let n = c.args.numbers in (
      record { class = refl; phase = refl; train = refl },
      record {
        v = rw (← c.from.ensures) c.amount_of.ensures;
        x = rw (← c.from-2.ensures) c.amount_of-2.ensures;
        h = rw (← c.from-3.ensures) c.amount_of-3.ensures;
        twist = rw c.amount_of-4.ensures (rw (c.from-4.ensures, c.from-5.ensures)
            (ap amount (signed_times n.n3.minus n.n3.size n.n4.size ∙ ap (λ (z : ℤ). value n.n3 *ℤ z) (sym (plain_value n.n4 c.requires.2)))));
      },
    )
