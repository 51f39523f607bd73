-- Where 13 is given the constricted rule applies, and its q is the one that is worked out.
use native.Mathlib.Decide.{dec_le}
use native.Mathlib.Omega.{arith}
use mathlib.Core.Path.{◌≡◌, refl}
use Prim.Native.Nat.{ℕ, ◌≤◌}
use Rattle.arithmetic.proofs.Cases.{impossible, unlike, by_cases}
use Rattle.scour.specs.declared.Waterway.{Waterway}
use Rattle.scour.specs.Scour.{ScourTold, refused, Constricted, ScourRule, large_catchment, too_intense, needed}
use Rattle.scour.proofs.discharge.Rules.{no_discharge}
use Rattle.job_faults.specs.steps.Figures.{Spread}

pub record Narrow (row : Waterway) : Type 0 where
  pub q : ℕ
  pub is : Constricted row q

pub narrow_of : {row : Waterway} {t : ScourTold} → ScourRule row t → t ≡ refused 13 → Narrow row
narrow_of (large_catchment h) e = unlike 12 13 refl cc
narrow_of (too_intense {q} a h) e = record { q = q; is = a }
narrow_of (needed l n) e = impossible cc

pub catchment_low : {row : Waterway} → Narrow row → row.catchment ≤ 25000
catchment_low {row} n = by_cases (dec_le row.catchment 25000) (λ k. k) (λ k. absurd (no_discharge (omega arith) n.is.flood))

pub constricted : {row : Waterway} {q : ℕ} → Narrow row → Spread row q → Constricted row q
constricted n s = record { Qf = s.Qf; flood = s.flood; narrow = n.is.narrow; intensity = s.intensity }
