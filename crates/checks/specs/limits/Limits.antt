-- Document 01, Load sets: the limits of the checks that a combination has (6.8, 6.7).
use Rattle.std.specs.Prelude.{◌≡◌, true, ℕ, ◌*◌}
use Rattle.arithmetic.specs.rounding.Least.{RoundedDown}
use Rattle.sets.specs.declared.Combination.{Combination}
use Rattle.sets.specs.declared.Combination.TheVariants.{I, II, III, IV}
use Rattle.checks.specs.declared.Base.{Base}
use Rattle.checks.specs.declared.Check.{Check}
use Rattle.checks.specs.declared.Check.TheVariants.{OP, OM, SL, PR, RK}

-- OP and OM 200 in I, 150 in II and III.
unfoldable pub TippingLimit : Combination → ℕ → Type 0
TippingLimit I n = n ≡ 200
TippingLimit II n = n ≡ 150
TippingLimit III n = n ≡ 150
TippingLimit IV n = ⊥

-- SL 150, then 125. 002 gives none for IV, so IV has only PR and RK.
unfoldable pub SlidingLimit : Combination → ℕ → Type 0
SlidingLimit I n = n ≡ 150
SlidingLimit II n = n ≡ 125
SlidingLimit III n = n ≡ 125
SlidingLimit IV n = ⊥

-- PR: allowable in I; 4/3 in II and III and 7/5 in IV, rounded down.
unfoldable pub PressureLimit : Combination → ℕ → ℕ → Type 0
PressureLimit I allowable n = n ≡ allowable
PressureLimit II allowable n = RoundedDown (4 * allowable) 3 n
PressureLimit III allowable n = RoundedDown (4 * allowable) 3 n
PressureLimit IV allowable n = RoundedDown (7 * allowable) 5 n

-- The combination has the check, with this limit. RK, rock only, limit 250.
unfoldable pub Limit : Combination → Check → Base → ℕ → Type 0
Limit combination OP base n = TippingLimit combination n
Limit combination OM base n = TippingLimit combination n
Limit combination SL base n = SlidingLimit combination n
Limit combination PR base n = PressureLimit combination base.allowable n
Limit combination RK base n = (base.rock ≡ true) × (n ≡ 250)
