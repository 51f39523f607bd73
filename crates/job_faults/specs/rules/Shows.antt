-- Document 01, Refusals of a job, 11 to 16, and 02, P1: 17, P3: 18, P4: 15, and P5: 19 and 20: the number of each, and when a row shows it.
-- `fill` is what is held for a soil and a slope: what the two fill books say for the job's member (02, P4).
use Rattle.std.specs.Prelude.{ℕ, ◌≡◌}
use Rattle.kinds.specs.declared.Kind.TheVariants.{S, C}
use Rattle.kinds.specs.declared.Row.{Row}
use Rattle.kinds.specs.Table.{train}
use Rattle.kinds.specs.ranges.Range.{Ranged}
use Rattle.kinds.specs.classes.Classes.{class_of, optional}
use Rattle.jobs.specs.declared.Job.{Job}
use Rattle.earth.specs.coefficients.Coefficients.{Coefficient}
use Rattle.loads.specs.LoadRows.{NamesLive}
use Rattle.loads.specs.forces.Blank.{BlankThere}
use Rattle.loads.specs.forces.Wetted.{UpperBelowLower}
use Rattle.loads.specs.forces.Laden.{LengthNotAbove, SoilTypeE}
use Rattle.scour.specs.Scour as scour
use Rattle.clearance.specs.Clear as clearance
use Rattle.answer.specs.river.River.{ScourGives, ClearanceGives}
use Rattle.answer.specs.Rules.{load_rows_of}
use Rattle.job_faults.specs.declared.rules.Rule.{Rule}
use Rattle.job_faults.specs.declared.rules.Rule.TheVariants as rules

abbrev pub rule_number : Rule → ℕ
rule_number rules.OutOfRange = 11
rule_number rules.LargeCatchment = 12
rule_number rules.TooIntense = 13
rule_number rules.OverObstructed = 14
rule_number rules.NoFill = 15
rule_number rules.TooManyOptional = 16
rule_number rules.UpperBelowLower = 17
rule_number rules.NoTrain = 18
rule_number rules.NotAbove = 19
rule_number rules.TypeE = 20

-- a row shows it, behind so many optional rows of its job: 12 and 13 are shown by the S row, 14 by the C row, and 16 by the 13th optional row
abbrev pub Shows : (ℕ → ℕ → Coefficient) → Job → Rule → (before : ℕ) → Row → Type 0
Shows fill job rules.OutOfRange before row = Ranged row.kind row.numbers → ⊥
Shows fill job rules.LargeCatchment before row = (row.kind ≡ S) × ScourGives job (scour.refused 12)
Shows fill job rules.TooIntense before row = (row.kind ≡ S) × ScourGives job (scour.refused 13)
Shows fill job rules.OverObstructed before row = (row.kind ≡ C) × ClearanceGives job (clearance.refused 14)
Shows fill job rules.NoFill before row = BlankThere fill row
Shows fill job rules.TooManyOptional before row = (optional (class_of row.kind) ≡ 1) × (before ≡ 12)
Shows fill job rules.UpperBelowLower before row = UpperBelowLower row
Shows fill job rules.NoTrain before row = NamesLive (load_rows_of job) (train row.kind row.numbers) → ⊥
Shows fill job rules.NotAbove before row = LengthNotAbove row
Shows fill job rules.TypeE before row = SoilTypeE row
