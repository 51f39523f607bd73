-- 002, 5.8.2 (document 02, P5): the two forces of a surcharge on an abutment and their heights, in the clause's two cases.
-- T is S + V, the live and the dead surcharge together, in kg/m; k is Ka in hundredths; B, h and L are in mm.
use Rattle.std.specs.Prelude.{ℕ, ◌+◌, ◌*◌, ◌-◌, ◌^◌}
use Rattle.arithmetic.specs.rounding.Least.{RoundedUp}
use Rattle.kinds.specs.declared.pushes.Push.{Push}
use Rattle.surcharge.specs.declared.Parts.{Parts}

-- a quotient that is not yet rounded
pub record Quotient : Type 0 where
  pub over : ℕ
  pub under : ℕ

abbrev pub quotient : ℕ → ℕ → Quotient
quotient a b = record { over = a; under = b }

-- a force in kg per metre of the abutment, and its height in mm above the section
pub record Pressure : Type 0 where
  pub force : Quotient
  pub arm : Quotient

-- P1 and P2
pub record Pressures : Type 0 where
  pub p1 : Pressure
  pub p2 : Pressure

-- "Case-1: h ≤ (L-B)": P1 = (S+V)h·Ka/(B+h), "acting at h/2"; P2 = (S+V)h²·Ka/(2B(B+h)), "acting at 2h/3"
abbrev pub within : (T k B h : ℕ) → Pressures
within T k B h =
    record {
      p1 = record { force = quotient (T * h * k) (100 * (B + h)); arm = quotient h 2 };
      p2 = record { force = quotient (T * h ^ 2 * k) (200 * B * (B + h)); arm = quotient (2 * h) 3 };
    }

-- "Case-2: h > (L-B)": P1 = (S+V)h·Ka/L, "acting at h/2"; P2 = (S+V)(L-B)²·Ka/(2BL), "acting at [h - ((L-B)/3)]"
abbrev pub beyond : (T k B h L : ℕ) → Pressures
beyond T k B h L =
    record {
      p1 = record { force = quotient (T * h * k) (100 * L); arm = quotient h 2 };
      p2 = record { force = quotient (T * (L - B) ^ 2 * k) (200 * B * L); arm = quotient (3 * h - (L - B)) 3 };
    }

-- the least whole number that is no less than a quotient
abbrev pub Rounded : Quotient → ℕ → Type 0
Rounded q n = RoundedUp q.over q.under n

-- "Each force is rounded up to whole kg per metre, then taken over the length, in kN at 9.80665 N, rounded up": what is divided by is, in this order, the mm in
-- a m, the hundred-thousandths in a N, and the N in a kN
pub record Force (L : ℕ) (q : Quotient) (H : ℕ) : Type 0 where
  pub p : ℕ
  pub kilograms : Rounded q p
  pub over_length : RoundedUp (p * L * 980665) (10 ^ 3 * 10 ^ 5 * 10 ^ 3) H

-- "and its arm rounded up."
pub record PartIs (L : ℕ) (q : Pressure) (part : Push) : Type 0 where
  pub force : Force L q.force part.force
  pub arm : Rounded q.arm part.arm

-- both forces over the length L
pub record PartsAre (L : ℕ) (q : Pressures) (parts : Parts) : Type 0 where
  pub p1 : PartIs L q.p1 parts.first
  pub p2 : PartIs L q.p2 parts.second
