-- What a load row exerts (document 01, the job book, Earth pressure and Load sets; 02, P1, P3, P4 and P5).
-- `fill` is what is held for a soil and a slope: what the two fill books say for the job's member (02, P4).
use Rattle.std.specs.Prelude.{◌≡◌, ℕ, ◌+◌, ◌*◌, pos, ◌*ℤ◌}
use Rattle.kinds.specs.declared.Numbers.{Numbers}
use Rattle.kinds.specs.declared.Row.{Row}
use Rattle.kinds.specs.Table.{phase, train}
use Rattle.kinds.specs.ranges.Range.{value}
use Rattle.earth.specs.coefficients.Coefficients.{Coefficient}
use Rattle.earth.specs.Earth.{push, backfill_in, Pushed}
use Rattle.current.specs.Current.{shaft_in, CurrentRule}
use Rattle.current.specs.Current as current
use Rattle.surcharge.specs.Surcharge.{abutment_in, pushes, SurchargeRule}
use Rattle.surcharge.specs.declared.Parts.{Parts}
use Rattle.arithmetic.specs.signed.Whole.{amount}
use Rattle.sets.specs.declared.Load.{Load}
use Rattle.kinds.specs.declared.classes.Source.{Source}
use Rattle.kinds.specs.declared.classes.Source.TheVariants.{Absent, Earth, Current, Surcharge, Own}
use Rattle.kinds.specs.classes.Classes.{class_of, source}

-- a load as written: V, x, H, and H times y, the twist
pub record OwnForces (numbers : Numbers) (load : Load) : Type 0 where
  pub v : load.v ≡ amount (value numbers.n1)
  pub x : load.x ≡ amount (value numbers.n2)
  pub h : load.h ≡ amount (value numbers.n3)
  pub twist : load.twist ≡ amount (value numbers.n3 *ℤ value numbers.n4)

-- a push H toward +x and its twist, and no V
pub record PushLoad (H twist : ℕ) (load : Load) : Type 0 where
  pub v : load.v ≡ amount (pos 0)
  pub x : load.x ≡ amount (pos 0)
  pub h : load.h ≡ amount (pos H)
  pub turns : load.twist ≡ amount (pos twist)

-- an earth pressure: its push
pub record EarthForces (fill : ℕ → ℕ → Coefficient) (numbers : Numbers) (load : Load) : Type 0 where
  pub H : ℕ
  pub y : ℕ
  pub pressed : Pushed fill (backfill_in numbers) (push H y)
  pub exerts : PushLoad H (H * y) load

-- a water current: its push
pub record CurrentForces (numbers : Numbers) (load : Load) : Type 0 where
  pub H : ℕ
  pub y : ℕ
  pub rule : CurrentRule (shaft_in numbers) (current.push H y)
  pub exerts : PushLoad H (H * y) load

-- two pushes toward +x as one load: H is that of both, and each has a 2Hy of its own, at its own arm
abbrev pub PartsLoad : Parts → Load → Type 0
PartsLoad parts load = PushLoad (parts.first.force + parts.second.force) (parts.first.force * parts.first.arm + parts.second.force * parts.second.arm) load

-- a surcharge: "one optional load with two horizontal parts, toward +x"
pub record SurchargeForces (numbers : Numbers) (load : Load) : Type 0 where
  pub parts : Parts
  pub rule : SurchargeRule (abutment_in numbers) (pushes parts)
  pub exerts : PartsLoad parts load

-- a row that is no load row exerts nothing; no job has one among its load rows
abbrev pub NoForces : Load → Type 0
NoForces load = PushLoad 0 0 load

-- the forces of a row, by where they come from
unfoldable pub Forces : (ℕ → ℕ → Coefficient) → Source → Numbers → Load → Type 0
Forces fill Absent numbers load = NoForces load
Forces fill Earth numbers load = EarthForces fill numbers load
Forces fill Current numbers load = CurrentForces numbers load
Forces fill Surcharge numbers load = SurchargeForces numbers load
Forces fill Own numbers load = OwnForces numbers load

-- the load of a row: its class, its phase, its train and its forces
pub record Exerts (fill : ℕ → ℕ → Coefficient) (row : Row) (load : Load) : Type 0 where
  pub class : load.class ≡ class_of row.kind
  pub phase : load.phase ≡ phase row.kind row.numbers
  pub train : load.train ≡ train row.kind row.numbers
  pub forces : Forces fill (source row.kind) row.numbers load
