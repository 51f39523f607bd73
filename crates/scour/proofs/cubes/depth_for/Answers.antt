-- d³ b reaches a exactly where d³ reaches a / b rounded up, and 41,000 is such a d. It is exact where both roundings are.
use Rattle.scour.proofs.cubes.Cubes.{scaled}
use Rattle.scour.proofs.cubes.depth_for.Goals as goal

pub returns : goal.returns
returns c =
    let depth = scaled c.args.a c.args.b _ _ _ _ c.requires.0 c.up-quotient.ensures c.cube_up-root.ensures in
    (depth, depth.rounded.least 41000 c.requires.1)
