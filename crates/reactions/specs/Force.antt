-- Document 02, P6: what a load is in kN, and that its numbers and products are finite.
use Rattle.std.specs.Prelude.{Float}
use Rattle.std.specs.Float.{binary64}
use Rattle.std.specs.Float.Ieee.{mul}
use Rattle.doubles.specs.Doubles.{Finite}
use Rattle.reactions.specs.declared.xdr.FrameLoad.{FrameLoad}
use Rattle.reactions.specs.declared.xdr.FrameLoad.TheVariants.{Force, Line, Pressure}
use Rattle.reactions.specs.declared.xdr.Reaction.{Reaction}

-- "Products are taken in doubles, left to right, each rounded once": a force itself; a line load times its length; a pressure times its one side,
-- and that times the other
abbrev pub kilonewtons : FrameLoad → Float
kilonewtons (Force f) = f
kilonewtons (Line q l) = mul binary64 q l
kilonewtons (Pressure p a b) = mul binary64 (mul binary64 p a) b

-- every number of a load and every product is finite
abbrev pub FiniteLoad : FrameLoad → Type 0
FiniteLoad (Force f) = Finite f
FiniteLoad (Line q l) = Finite q × Finite l × Finite (mul binary64 q l)
FiniteLoad (Pressure p a b) = Finite p × Finite a × Finite b × Finite (mul binary64 p a) × Finite (mul binary64 (mul binary64 p a) b)

-- and so are the arms
pub record AllFinite (r : Reaction) : Type 0 where
  pub vertical : FiniteLoad r.vertical
  pub x : Finite r.x
  pub horizontal : FiniteLoad r.horizontal
  pub y : Finite r.y
