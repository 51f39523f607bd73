-- Where a refusal lies, "Warnings, of jobs that are not refused": what is asked of a job's load rows, and of its answer. V in kN, x in mm from the
-- base centre, H in kN, positive toward +x, and y in mm above the base are n1 to n4 of a row that gives its own forces (document 01, the job book).
use Rattle.std.specs.Prelude.{◌≡◌, ◌⊎◌, Bool, true, false, ℕ, ◌*◌, ◌<◌, Option, Some, None}
use mathlib.Core.List.{List, Memᴰ}
use Rattle.arithmetic.specs.decides.Decides.{Decides}
use Rattle.kinds.specs.declared.Kind.{Kind}
use Rattle.kinds.specs.declared.Kind.TheVariants.{DL, WL, SF}
use Rattle.kinds.specs.declared.Row.{Row}
use Rattle.kinds.specs.declared.classes.Source.TheVariants.{Own}
use Rattle.kinds.specs.classes.Classes.{source}
use Rattle.lines.specs.declared.Line.TheVariants.{Missing}
use Rattle.lines.specs.declared.Answer.{Answer}
use Rattle.warnings.specs.declared.Way.{Way}
use Rattle.warnings.specs.declared.Way.TheVariants.{Forward, Backward}
use Rattle.warnings.specs.declared.JobWarnings.{JobWarnings}
use Rattle.warnings.specs.declared.RowWarnings.{RowWarnings}

-- "a V that stands outside the base": farther from its centre than half its width; at the edge it stands within
pub record Outside (width : ℕ) (row : Row) : Type 0 where
  pub own : source row.kind ≡ Own
  pub weighs : 0 < row.numbers.n1.size
  pub beyond : width < 2 * row.numbers.n2.size

-- "y below 100 mm with an H that is not 0 (metres written for millimetres?)"
pub record Low (row : Row) : Type 0 where
  pub own : source row.kind ≡ Own
  pub pushes : 0 < row.numbers.n3.size
  pub below : row.numbers.n4.size < 100

-- P holds of one of the rows
pub record Among (P : Row → Type 0) (rows : List Row) : Type 0 where
  pub row : Row
  pub among : Memᴰ row rows
  pub has : P row

-- "no DL row"
unfoldable pub NoDead : List Row → Type 0
NoDead rows = Among (λ row. row.kind ≡ DL) rows → ⊥

-- a row of the kind with an H above 0, or, backward, with one below 0
pub record Pushes (kind : Kind) (backward : Bool) (row : Row) : Type 0 where
  pub is : row.kind ≡ kind
  pub some : 0 < row.numbers.n3.size
  pub way : row.numbers.n3.minus ≡ backward

-- "one way only"; neither is both ways, or none at all
unfoldable pub WayIs : Kind → List Row → Option Way → Type 0
WayIs kind rows None = (Among (Pushes kind false) rows × Among (Pushes kind true) rows) ⊎ ((Among (Pushes kind false) rows → ⊥) × (Among (Pushes kind true) rows → ⊥))
WayIs kind rows (Some Forward) = Among (Pushes kind false) rows × (Among (Pushes kind true) rows → ⊥)
WayIs kind rows (Some Backward) = (Among (Pushes kind false) rows → ⊥) × Among (Pushes kind true) rows

-- what is warned of the load rows of a job
pub record JobWarned (rows : List Row) (warnings : JobWarnings) : Type 0 where
  pub no_dead : Decides warnings.no_dead (NoDead rows)
  pub wind : WayIs WL rows warnings.wind
  pub earthquake : WayIs SF rows warnings.earthquake

-- what is warned of one of them, on a base of this width
pub record RowWarned (width : ℕ) (row : Row) (warnings : RowWarnings) : Type 0 where
  pub outside : Decides warnings.outside (Outside width row)
  pub low : Decides warnings.low (Low row)

-- "a job of which no service combination was checked": OP, which I, II and III each have where they are checked, is missing in all three
pub record Unserved (answer : Answer) : Type 0 where
  pub one : answer.one.op ≡ Missing
  pub two : answer.two.op ≡ Missing
  pub three : answer.three.op ≡ Missing
