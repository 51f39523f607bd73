-- Each refusal has an arm of its own, with the figures that its rule compares.
use borrow.Author.Rules.{rules}
use native.Mathlib.Omega.{arith}
use mathlib.Core.Path.{◌≡◌, refl, sym, ap, subst, subst⁻¹, ◌∙◌}
use Prim.Native.Nat.{ℕ}
use Rattle.arithmetic.proofs.Cases.{impossible}
use Rattle.kinds.specs.declared.Row.{Row}
use Rattle.jobs.specs.declared.Job.{Job}
use Rattle.earth.specs.coefficients.Coefficients.{Coefficient}
use Rattle.earth.specs.coefficients.Lent.{fill_of}
use Rattle.job_faults.specs.declared.JobFault.{JobFault}
use Rattle.job_faults.specs.declared.rules.Rule.{Rule}
use Rattle.job_faults.specs.declared.rules.Rule.TheVariants as rules
use Rattle.job_faults.specs.First.{First}
use Rattle.job_faults.specs.JobRows.{rows_in}
use Rattle.job_faults.specs.Out.{OutOf}
use Rattle.job_faults.specs.Faults.{ShownAt, Lies, JobLies}
use Rattle.job_faults.specs.steps.Figures.{fault_of_row}
use Rattle.job_faults.proofs.figures.Spreading.{narrow_of, catchment_low, constricted}
use Rattle.job_faults.proofs.figures.fault_at.Statement.{statement}
use Rattle.job_faults.proofs.figures.fault_at.Tie as tie

-- the row is the first that shows the refusal, whatever its figures are called
module _ (c : tie.Start) where
  abbrev fill : ℕ → ℕ → Coefficient
  fill = fill_of c.args.held

  abbrev job : Job
  job = c.args.job

  abbrev At : Rule → Type 0
  At x = Lies fill job x c.args.position (λ shown. shown ≡ c.args.row)

  lies_as : {x : Rule} → c.args.rule ≡ x → (F : Row → Type 0) → F c.args.row → Lies fill job x c.args.position F
  lies_as {x} e F figures =
      let l = subst At e c.requires.0 in
      record { refuses = l.refuses; row = c.args.row; first = subst (First (ShownAt fill job x) (rows_in job) c.args.position) l.figures l.first; figures = figures }

  shown : {x : Rule} → c.args.rule ≡ x → (i : ℕ) × ShownAt fill job x i c.args.row
  shown {x} e = let l = subst At e c.requires.0 in (l.first.place, subst (ShownAt fill job x l.first.place) l.figures l.first.shows)

  -- where its figures are numbers of the row
  told_so : {x : Rule} {f : JobFault} → c.args.rule ≡ x → f ≡ fault_of_row c.args.rule c.args.position c.args.row → JobLies fill job (fault_of_row x c.args.position c.args.row) → JobLies fill job f
  told_so e q = subst⁻¹ (JobLies fill job) (q ∙ ap (λ (y : Rule). fault_of_row y c.args.position c.args.row) e)

enum_told : tie.Need-enum_told-1
enum_told c = search rules

out-of-requires : tie.Need-out_of-requires
out-of-requires c κs = (shown c.before c.in-OutOfRange.is).1

enum-told-2 : tie.Need-enum_told-in-LargeCatchment
enum-told-2 c = search rules

cast-t9 : tie.Need-overflow_cast-result
cast-t9 c = omega (arith, c.struct_known-1.given)

enum-told-3 : tie.Need-enum_told-in-TooIntense
enum-told-3 c = search rules

intensity-of-requires : tie.Need-intensity_of-requires
intensity-of-requires c κs =
    let gives = (shown c.before.before c.in-TooIntense.is).1.1 in
    let ranged = (c.requires.1 (λ e. let q = sym c.in-TooIntense.is ∙ e in impossible cc)).rows.scour gives.has in
    (ranged.n1.to, catchment_low (narrow_of gives.rule refl), ranged.n4.from)

enum-told-4 : tie.Need-enum_told-in-OverObstructed
enum-told-4 c = search rules

cast-t12 : tie.Need-overflow_cast-result-in-OverObstructed
cast-t12 c = omega (arith, c.struct_known-in-OverObstructed-1.given)

enum-told-5 : tie.Need-enum_told-in-NoFill
enum-told-5 c = search rules

row-fault-requires : tie.Need-row_fault-requires
row-fault-requires c κs = search rules

enum-told-6 : tie.Need-enum_told-in-TooManyOptional
enum-told-6 c = search rules

optional-rows-requires : tie.Need-optional_rows-requires
optional-rows-requires c κs = search rules

enum-told-7 : tie.Need-enum_told-in-UpperBelowLower
enum-told-7 c = search rules

row-fault-requires-2 : tie.Need-row_fault-requires-in-UpperBelowLower
row-fault-requires-2 c κs = search rules

enum-told-8 : tie.Need-enum_told-in-NoTrain
enum-told-8 c = search rules

row-fault-requires-3 : tie.Need-row_fault-requires-in-NoTrain
row-fault-requires-3 c κs = search rules

enum-told-9 : tie.Need-enum_told-in-NotAbove
enum-told-9 c = search rules

row-fault-requires-4 : tie.Need-row_fault-requires-in-NotAbove
row-fault-requires-4 c κs = search rules

enum-told-10 : tie.Need-enum_told-in-TypeE
enum-told-10 c = search rules

row-fault-requires-5 : tie.Need-row_fault-requires-in-TypeE
row-fault-requires-5 c κs = search rules

returns : tie.Need-returns-in-OutOfRange
returns c =
    let out = c.out_of.result in
    subst⁻¹ (λ (p : ℕ). Lies (fill c.before.before) (job c.before.before) rules.OutOfRange p (λ row. OutOf row out)) c.out_of.ensures.0 (lies_as c.before.before c.in-OutOfRange.is (λ row. OutOf row out) c.out_of.ensures.1)

returns-2 : tie.Need-returns-in-LargeCatchment
returns-2 c = lies_as c.before.before c.in-LargeCatchment.is _ refl

returns-3 : tie.Need-returns-in-TooIntense
returns-3 c =
    let gives = (shown c.before.before.before c.in-TooIntense.is).1.1 in
    lies_as c.before.before.before c.in-TooIntense.is _ (constricted (narrow_of gives.rule refl) c.intensity_of.ensures)

returns-4 : tie.Need-returns-in-OverObstructed
returns-4 c = lies_as c.before.before.before c.in-OverObstructed.is _ (refl, refl)

returns-5 : tie.Need-returns-in-NoFill
returns-5 c =
    let e = c.in-NoFill.is in
    told_so c.before.before e c.row_fault.ensures (lies_as c.before.before e _ (refl, refl))

returns-6 : tie.Need-returns-in-TooManyOptional
returns-6 c = lies_as c.before.before.before c.in-TooManyOptional.is _ c.optional_rows.ensures

returns-7 : tie.Need-returns-in-UpperBelowLower
returns-7 c =
    let e = c.in-UpperBelowLower.is in
    told_so c.before.before e c.row_fault-in-UpperBelowLower.ensures (lies_as c.before.before e _ (refl, refl))

returns-8 : tie.Need-returns-in-NoTrain
returns-8 c =
    let e = c.in-NoTrain.is in
    told_so c.before.before e c.row_fault-in-NoTrain.ensures (lies_as c.before.before e _ refl)

returns-9 : tie.Need-returns-in-NotAbove
returns-9 c =
    let e = c.in-NotAbove.is in
    told_so c.before.before e c.row_fault-in-NotAbove.ensures (lies_as c.before.before e _ (refl, refl))

returns-10 : tie.Need-returns-in-TypeE
returns-10 c =
    let e = c.in-TypeE.is in
    told_so c.before.before e c.row_fault-in-TypeE.ensures (lies_as c.before.before e _ tt)

added_overflow_cast_result_in_OverObstructed_2 : tie.Need-overflow_cast-result-in-OverObstructed-2
added_overflow_cast_result_in_OverObstructed_2 c = search rules

pub fault_at_spec : {M : Type 1} → statement M
fault_at_spec = tie.close (tie.spec enum_told out-of-requires enum-told-2 cast-t9 enum-told-3 intensity-of-requires enum-told-4 cast-t12 added_overflow_cast_result_in_OverObstructed_2 enum-told-5 row-fault-requires enum-told-6 optional-rows-requires enum-told-7 row-fault-requires-2 enum-told-8 row-fault-requires-3 enum-told-9 row-fault-requires-4 enum-told-10 row-fault-requires-5 returns returns-2 returns-3 returns-4 returns-5 returns-6 returns-7 returns-8 returns-9 returns-10)
