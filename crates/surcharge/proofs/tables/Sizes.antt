-- How large what the tables hold is: by walks along them, which antt computes; and no width is below 1,800.
use mathlib.Core.Path.{◌≡◌, refl}
use Prim.Native.Nat.{ℕ, zero, suc, ◌-◌, ◌≤◌, ◌<◌}
use native.Mathlib.Omega.{arith}
use lib.Dec.{lit≤}
use lib.ListN.{get_or}
use Rattle.arithmetic.proofs.rounding.Tables.{under}
use Rattle.surcharge.specs.tables.Tables.{surcharges, widths, actives, table3_surcharge, table3_width, active}

pub surcharge_small : (standard : ℕ) → table3_surcharge standard ≤ 16300
surcharge_small standard = under 16300 surcharges tt (standard - 1)

pub width_small : (standard : ℕ) → table3_width standard ≤ 3000
width_small standard = under 3000 widths tt (standard - 1)

pub active_small : (soil : ℕ) → active soil ≤ 100
active_small soil = under 100 actives tt (soil - 1)

wide : (k : ℕ) → k < 7 → 1800 ≤ get_or widths k 0
wide zero h = lit≤ tt
wide (suc zero) h = lit≤ tt
wide (suc (suc zero)) h = lit≤ tt
wide (suc (suc (suc zero))) h = lit≤ tt
wide (suc (suc (suc (suc zero)))) h = lit≤ tt
wide (suc (suc (suc (suc (suc zero))))) h = lit≤ tt
wide (suc (suc (suc (suc (suc (suc zero)))))) h = lit≤ tt
wide (suc (suc (suc (suc (suc (suc (suc k))))))) h = absurd (omega arith)

pub width_wide : (standard : ℕ) → 1 ≤ standard → standard ≤ 7 → 1800 ≤ table3_width standard
width_wide standard from to = wide (standard - 1) (omega arith)

-- past its last line the table holds nothing, and 0 lines down is its first
none : (k : ℕ) → 7 ≤ k → get_or widths k 0 ≡ 0
none zero h = absurd (omega arith)
none (suc zero) h = absurd (omega arith)
none (suc (suc zero)) h = absurd (omega arith)
none (suc (suc (suc zero))) h = absurd (omega arith)
none (suc (suc (suc (suc zero)))) h = absurd (omega arith)
none (suc (suc (suc (suc (suc zero))))) h = absurd (omega arith)
none (suc (suc (suc (suc (suc (suc zero)))))) h = absurd (omega arith)
none (suc (suc (suc (suc (suc (suc (suc k))))))) h = refl

pub width_past : (standard : ℕ) → 7 < standard → table3_width standard ≡ 0
width_past standard h = none (standard - 1) (omega arith)

pub width_first : (standard : ℕ) → standard < 1 → table3_width standard ≡ table3_width 1
width_first zero h = refl
width_first (suc k) h = absurd (omega arith)
