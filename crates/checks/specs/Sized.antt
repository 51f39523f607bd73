-- How large a base may be for every figure to fit a word; the ranges of a B row are within it. Lengths are in mm, the allowable pressure in
-- kN/m², the friction in thousandths.
use Rattle.std.specs.Prelude.{◌≤◌, ◌<◌}
use Rattle.checks.specs.declared.Base.{Base}

pub record Sized (base : Base) : Type 0 where
  pub wide : 0 < base.width
  pub width : base.width ≤ 30000
  pub long : 0 < base.length
  pub length : base.length ≤ 60000
  pub allowable : base.allowable ≤ 10000
  pub friction : base.friction ≤ 1000
