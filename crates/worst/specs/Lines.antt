-- Document 01, Load sets and the printed answer, and 02, P7: the line of a check in a combination.
use Rattle.std.specs.Prelude.{Bool, ℕ}
use Rattle.arithmetic.specs.decides.Decides.{Decides}
use Rattle.sets.specs.declared.Combination.{Combination}
use Rattle.sets.specs.declared.Loads.{Loads}
use Rattle.sets.specs.Sets.{Permitted}
use Rattle.checks.specs.declared.Base.{Base}
use Rattle.checks.specs.declared.Check.{Check}
use Rattle.checks.specs.declared.Check.TheVariants.{OP, OM, SL, PR, RK}
use Rattle.checks.specs.declared.Figure.{Figure}
use Rattle.checks.specs.set_figures.Figures.{Shows, ShowsExactly}
use Rattle.checks.specs.Order.{side}
use Rattle.checks.specs.limits.Limits.{Limit}
use Rattle.lines.specs.declared.Line.{Line}
use Rattle.lines.specs.declared.Line.TheVariants.{Missing, Shown}
use Rattle.lines.specs.declared.Lines.{Lines}
use Rattle.checks.specs.passing.Passing.{Passes}
use Rattle.weighing.specs.Named.{Named}

-- value, limit, set, Y or N, E or R
pub record CheckShown (combination : Combination) (check : Check) (base : Base) (loads : Loads) (figure : Figure) (limit set : ℕ) (passes exact : Bool) : Type 0 where
  pub named : Named (side check) (Permitted combination loads) (Shows check base loads) figure set
  pub limited : Limit combination check base limit
  pub marked : Decides passes (Passes (side check) limit figure)
  -- 02, P7: "by the named set"
  pub told : Decides exact (ShowsExactly check base loads set figure)

-- A combination with no set is not checked, and one that has no limit for a check has no line of it.
unfoldable pub LineSays : Combination → Check → Base → Loads → Line → Type 0
LineSays combination check base loads Missing = (limit : ℕ) → Limit combination check base limit → (set : ℕ) → Permitted combination loads set → ⊥
LineSays combination check base loads (Shown figure limit set passes exact) = CheckShown combination check base loads figure limit set passes exact

-- the line of each check
unfoldable pub line : Check → Lines → Line
line OP lines = lines.op
line OM lines = lines.om
line SL lines = lines.sl
line PR lines = lines.pr
line RK lines = lines.rk
