-- What `first_out` answers: the first column that is out of range; `intensity_of`: q of a waterway, as if the constricted rule applied; and `row_fault`: the figures
-- that are numbers of the load row which shows a refusal.
use Rattle.std.specs.Prelude.{ℕ, ◌<◌}
use Rattle.kinds.specs.declared.Columns.{Columns}
use Rattle.kinds.specs.declared.Numbers.{Numbers}
use Rattle.kinds.specs.declared.Row.{Row}
use Rattle.kinds.specs.Table.{train}
use Rattle.kinds.specs.ranges.Range.{InRange}
use Rattle.earth.specs.Earth.{backfill_in}
use Rattle.current.specs.Current.{shaft_in}
use Rattle.surcharge.specs.Surcharge.{abutment_in, B}
use Rattle.scour.specs.discharge.Discharge.{FoundationDischarge}
use Rattle.scour.specs.lacey.Lacey.{Intensity}
use Rattle.scour.specs.declared.Waterway.{Waterway}
use Rattle.job_faults.specs.declared.figures.Filling.{Filling}
use Rattle.job_faults.specs.declared.rules.Rule.{Rule}
use Rattle.job_faults.specs.declared.rules.Rule.TheVariants as rules
use Rattle.job_faults.specs.declared.JobFault.{JobFault}
use Rattle.job_faults.specs.declared.JobFault.TheVariants.{Sound, NoFill, UpperBelowLower, NoTrain, NotAbove, TypeE}
use Rattle.job_faults.specs.First.{StandsAt}
use Rattle.job_faults.specs.Out.{fillings}

pub record FirstOut (columns : Columns) (numbers : Numbers) (place : ℕ) : Type 0 where
  pub there : place < 6
  pub out : (f : Filling) → StandsAt (fillings columns numbers) place f → InRange f.range f.entry → ⊥
  pub before : (i : ℕ) (f : Filling) → i < place → StandsAt (fillings columns numbers) i f → InRange f.range f.entry

pub record Spread (row : Waterway) (q : ℕ) : Type 0 where
  pub Qf : ℕ
  pub flood : FoundationDischarge row.discharge row.catchment Qf
  pub intensity : Intensity Qf row.width q

abbrev pub fault_of_row : Rule → ℕ → Row → JobFault
fault_of_row rules.OutOfRange p row = Sound
fault_of_row rules.LargeCatchment p row = Sound
fault_of_row rules.TooIntense p row = Sound
fault_of_row rules.OverObstructed p row = Sound
fault_of_row rules.NoFill p row = NoFill p (backfill_in row.numbers).soil (backfill_in row.numbers).slope
fault_of_row rules.TooManyOptional p row = Sound
fault_of_row rules.UpperBelowLower p row = UpperBelowLower p (shaft_in row.numbers).upper (shaft_in row.numbers).lower
fault_of_row rules.NoTrain p row = NoTrain p (train row.kind row.numbers)
fault_of_row rules.NotAbove p row = NotAbove p (abutment_in row.numbers).length (B (abutment_in row.numbers))
fault_of_row rules.TypeE p row = TypeE p
