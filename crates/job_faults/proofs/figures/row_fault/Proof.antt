-- Each refusal has an arm of its own.
use borrow.Author.Rules.{rules}
use native.Mathlib.Omega.{arith}
use mathlib.Core.Path.{◌≡◌, sym, ap, ◌∙◌}
use Rattle.job_faults.specs.declared.JobFault.TheVariants.{NoTrain, NotAbove}
use Rattle.job_faults.specs.declared.rules.Rule.{Rule}
use Rattle.job_faults.specs.steps.Figures.{fault_of_row}
use Rattle.job_faults.proofs.figures.row_fault.Statement.{statement}
use Rattle.job_faults.proofs.figures.row_fault.Tie as tie

-- the fault of the refusal that it is
by_rule : (c : tie.Start) {x : Rule} → c.args.rule ≡ x → fault_of_row x c.args.position c.args.row ≡ fault_of_row c.args.rule c.args.position c.args.row
by_rule c e = sym (ap (λ (x : Rule). fault_of_row x c.args.position c.args.row) e)

enum_told : tie.Need-enum_told-1
enum_told c = search rules

enum-told-2 : tie.Need-enum_told-in-LargeCatchment
enum-told-2 c = search rules

enum-told-3 : tie.Need-enum_told-in-TooIntense
enum-told-3 c = search rules

enum-told-4 : tie.Need-enum_told-in-OverObstructed
enum-told-4 c = search rules

enum-told-5 : tie.Need-enum_told-in-NoFill
enum-told-5 c = search rules

enum-told-6 : tie.Need-enum_told-in-TooManyOptional
enum-told-6 c = search rules

enum-told-7 : tie.Need-enum_told-in-UpperBelowLower
enum-told-7 c = search rules

cast-t6 : tie.Need-overflow_cast-result
cast-t6 c = omega (arith, c.struct_known-1.given)

cast-t7 : tie.Need-overflow_cast-result-in-UpperBelowLower
cast-t7 c = omega (arith, c.struct_known-in-UpperBelowLower-1.given)

enum-told-8 : tie.Need-enum_told-in-NoTrain
enum-told-8 c = search rules

train-of-requires : tie.Need-train_of-requires
train-of-requires c κs = search rules

enum-told-9 : tie.Need-enum_told-in-NotAbove
enum-told-9 c = search rules

cast-t9 : tie.Need-overflow_cast-result-in-NotAbove
cast-t9 c = omega (arith, c.struct_known-in-NotAbove-1.given)

width-at-requires : tie.Need-width_at-requires
width-at-requires c κs = search rules

enum-told-10 : tie.Need-enum_told-in-TypeE
enum-told-10 c = search rules

returns : tie.Need-returns-in-OutOfRange
returns c = by_rule c.before.before c.in-OutOfRange.is

returns-2 : tie.Need-returns-in-LargeCatchment
returns-2 c = by_rule c.before.before c.in-LargeCatchment.is

returns-3 : tie.Need-returns-in-TooIntense
returns-3 c = by_rule c.before.before c.in-TooIntense.is

returns-4 : tie.Need-returns-in-OverObstructed
returns-4 c = by_rule c.before.before c.in-OverObstructed.is

returns-5 : tie.Need-returns-in-NoFill
returns-5 c = by_rule c.before.before c.in-NoFill.is

returns-6 : tie.Need-returns-in-TooManyOptional
returns-6 c = by_rule c.before.before c.in-TooManyOptional.is

returns-7 : tie.Need-returns-in-UpperBelowLower
returns-7 c = by_rule c.before.before.before.before c.in-UpperBelowLower.is

returns-8 : tie.Need-returns-in-NoTrain
returns-8 c = ap (NoTrain c.args.position) c.train_of.ensures ∙ by_rule c.before.before.before c.in-NoTrain.is

returns-9 : tie.Need-returns-in-NotAbove
returns-9 c = ap (NotAbove c.args.position c.args.row.numbers.n5.size) c.width_at.ensures ∙ by_rule c.before.before.before.before c.in-NotAbove.is

returns-10 : tie.Need-returns-in-TypeE
returns-10 c = by_rule c.before.before c.in-TypeE.is

pub row_fault_spec : {M : Type 1} → statement M
row_fault_spec = tie.close (tie.spec enum_told enum-told-2 enum-told-3 enum-told-4 enum-told-5 enum-told-6 enum-told-7 cast-t6 cast-t7 enum-told-8 train-of-requires enum-told-9 cast-t9 width-at-requires enum-told-10 returns returns-2 returns-3 returns-4 returns-5 returns-6 returns-7 returns-8 returns-9 returns-10)
