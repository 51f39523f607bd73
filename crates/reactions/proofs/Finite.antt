-- A product is finite only if its factors are, so that what a load is in kN tells whether every number and product of it is finite.
use mathlib.Core.Bool.{Bool, ◌&&◌}
use lib.Ieee.{binary64, mul}
use Rattle.arithmetic.specs.decides.Decides.{Decides}
use Rattle.arithmetic.proofs.Deciding.{decides_same, decides_both}
use Rattle.doubles.specs.Doubles.{Finite}
use Rattle.doubles.proofs.Products.{mul_finite}
use Rattle.reactions.specs.declared.xdr.FrameLoad.{FrameLoad}
use Rattle.reactions.specs.declared.xdr.FrameLoad.TheVariants.{Force, Line, Pressure}
use Rattle.reactions.specs.declared.xdr.Reaction.{Reaction}
use Rattle.reactions.specs.Force.{kilonewtons, FiniteLoad, AllFinite}

finite_load : (load : FrameLoad) → Finite (kilonewtons load) → FiniteLoad load
finite_load (Force f) h = h
finite_load (Line q l) h = let t = mul_finite q l h in (t.0, t.1, h)
finite_load (Pressure p a b) h =
    let t = mul_finite (mul binary64 p a) b h in
    let u = mul_finite p a t.0 in
    (u.0, u.1, t.1, t.0, h)

pub load_finite : (load : FrameLoad) → FiniteLoad load → Finite (kilonewtons load)
load_finite (Force f) h = h
load_finite (Line q l) h = h.2
load_finite (Pressure p a b) h = h.4

-- the four tests together
pub decides_finite : (r : Reaction) (v x h y : Bool) → Decides v (Finite (kilonewtons r.vertical)) → Decides x (Finite r.x) → Decides h (Finite (kilonewtons r.horizontal))
    → Decides y (Finite r.y) → Decides (((v && x) && h) && y) (AllFinite r)
decides_finite r v x h y dv dx dh dy =
    decides_same (((v && x) && h) && y)
    (λ t. record { vertical = finite_load r.vertical t.0.0.0; x = t.0.0.1; horizontal = finite_load r.horizontal t.0.1; y = t.1 })
    (λ f. (((load_finite r.vertical f.vertical, f.x), load_finite r.horizontal f.horizontal), f.y))
    (decides_both ((Finite (kilonewtons r.vertical) × Finite r.x) × Finite (kilonewtons r.horizontal)) (Finite r.y) ((v && x) && h) y
    (decides_both (Finite (kilonewtons r.vertical) × Finite r.x) (Finite (kilonewtons r.horizontal)) (v && x) h
    (decides_both (Finite (kilonewtons r.vertical)) (Finite r.x) v x dv dx) dh) dy)
