-- Document 01, "River rules" for the discharge of a foundation (002, 4.4), in the paper's words and letters. Discharges in l/s, catchments in km².
use Rattle.std.specs.Prelude.{ℕ, ◌-◌, ◌*◌, ◌≤◌, ◌<◌}
use Rattle.arithmetic.specs.rounding.Least.{RoundedUp}

-- 4.4. "Qf, rounded up: catchment Z to 500: 13Q/10; to 5,000: Q(59,000-Z)/45,000; to 25,000: Q(245,000-Z)/200,000." Above 25,000 there is none
pub data FoundationDischarge (Q Z Qf : ℕ) : Type 0 where
  to_500 : Z ≤ 500 → RoundedUp (13 * Q) 10 Qf → FoundationDischarge Q Z Qf
  to_5000 : 500 < Z → Z ≤ 5000 → RoundedUp (Q * (59000 - Z)) 45000 Qf → FoundationDischarge Q Z Qf
  to_25000 : 5000 < Z → Z ≤ 25000 → RoundedUp (Q * (245000 - Z)) 200000 Qf → FoundationDischarge Q Z Qf
