-- A depth needed is shown as SC, but on rock.
use Rattle.std.proofs.Common.{refl, ap}
use Rattle.arithmetic.proofs.Deciding.{decides_at_most}
use Rattle.arithmetic.specs.signed.Whole.{amount}
use Rattle.scour.specs.ScourRow.{scour_told}
use Rattle.answer.proofs.river.depth_of.Goals as goal

pub returns-then-rock : goal.returns-then-rock
returns-then-rock c = (_, _, ap scour_told c.in_ok-needed.was, c.if-rock.true)

pub returns : goal.returns
unfolding amount
returns c =
    let needed = c.in_ok-needed.needed in
    (needed.value, needed.exact, ap scour_told c.in_ok-needed.was, (c.if-rock.false, refl, refl, decides_at_most needed.value c.args.found, refl))
