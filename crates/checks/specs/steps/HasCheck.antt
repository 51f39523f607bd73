-- What `limit_of` is asked for, and what the search goes by: which checks a combination has (document 01, Load sets, Limits).
use Rattle.std.specs.Prelude.{ℕ}
use Rattle.sets.specs.declared.Combination.{Combination}
use Rattle.checks.specs.declared.Base.{Base}
use Rattle.checks.specs.declared.Check.{Check}
use Rattle.checks.specs.limits.Limits.{Limit}

-- it has a limit for the check
unfoldable pub HasCheck : Combination → Check → Base → Type 0
HasCheck combination check base = (limit : ℕ) × Limit combination check base limit
