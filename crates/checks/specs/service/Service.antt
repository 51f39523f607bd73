-- What `serves` answers: the combination has OP, OM and SL (document 01, Load sets, Limits). No demand rests on it.
use Rattle.std.specs.Prelude.{ℕ}
use Rattle.sets.specs.declared.Combination.{Combination}
use Rattle.checks.specs.limits.Limits.{TippingLimit}

-- 002 gives it a factor against overturning; against sliding it gives one to the same combinations (`serves_sliding`, `sliding_serves`)
unfoldable pub Service : Combination → Type 0
Service combination = (limit : ℕ) × TippingLimit combination limit
