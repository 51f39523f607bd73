-- What is above zero and what is below are added up on two sides, which fit a word, and the difference of the sides is the clearance.
use Rattle.std.proofs.Common.{ap, ◌∙◌, arith}
use Rattle.arithmetic.specs.signed.Whole.{amount}
use Rattle.clearance.proofs.Levels.{part_most, between_levels}
use Rattle.clearance.proofs.clearance_under.Goals as goal

pub overflow_add-height : goal.overflow_add-height
overflow_add-height c = omega (arith, part_most c.args.underside c.requires.0 c.from-upper.ensures, part_most c.args.flood c.requires.1 c.from-lower.ensures)

pub overflow_add-depth : goal.overflow_add-depth
overflow_add-depth c = omega (arith, part_most c.args.underside c.requires.0 c.from-upper.ensures, part_most c.args.flood c.requires.1 c.from-lower.ensures)

pub overflow_add-depth-2 : goal.overflow_add-depth-2
overflow_add-depth-2 c = omega (arith, part_most c.args.underside c.requires.0 c.from-upper.ensures, part_most c.args.flood c.requires.1 c.from-lower.ensures, c.requires.2)

pub returns : goal.returns
returns c =
    let a = c.args in
    c.difference.ensures ∙ ap amount (between_levels a.underside a.flood a.afflux c.from-upper.ensures c.from-lower.ensures)
