-- Document 02, P6: "where all factors are whole and every partial product is below 2^53 in size, the product is proved exact."
use Rattle.std.specs.Prelude.{◌^◌, ◌<◌, ℤ, nat_abs, ◌*ℤ◌, Float}
use Rattle.doubles.specs.Doubles.{Exactly, Nearest}
use Rattle.reactions.specs.declared.xdr.FrameLoad.{FrameLoad}
use Rattle.reactions.specs.declared.xdr.FrameLoad.TheVariants.{Force, Line, Pressure}
use Rattle.reactions.specs.Force.{kilonewtons}

-- all factors of a load are whole, every partial product is below 2^53 in size, and z is the product of these whole numbers
pub data WholeLoad : FrameLoad → ℤ → Type 0 where
  force : {f : Float} {a : ℤ} → Exactly f a → WholeLoad (Force f) a
  line : {q l : Float} {a b : ℤ} → Exactly q a → Exactly l b → nat_abs (a *ℤ b) < 2 ^ 53 → WholeLoad (Line q l) (a *ℤ b)
  pressure : {p s t : Float} {a b c : ℤ} → Exactly p a → Exactly s b → Exactly t c → nat_abs (a *ℤ b) < 2 ^ 53 → nat_abs (a *ℤ b *ℤ c) < 2 ^ 53
      → WholeLoad (Pressure p s t) (a *ℤ b *ℤ c)

-- then what the load is in kN is that number, and that number stands in the row
pub record ExactWhereWhole : Type 0 where
  pub product : (load : FrameLoad) (z : ℤ) → WholeLoad load z → Exactly (kilonewtons load) z
  pub rounded : (load : FrameLoad) (z : ℤ) → WholeLoad load z → Nearest (kilonewtons load) z
