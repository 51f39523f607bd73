-- A row without a form is refused with 3; one with a form does what its job answers, which refuses with 4 alone.
use Rattle.std.proofs.Common.{◌≡◌, refl, arith}
use Rattle.std.specs.Prelude.{Option, Some, Result, Ok, Err}
use Rattle.rows.specs.declared.keys.Keyed.{Keyed}
use Rattle.rows.specs.declared.refusals.Refusal.{Refusal}
use Rattle.rows.specs.declared.refusals.Refusal.TheVariants.{TooLong, NotCsv, NoForm, Misplaced, TooManyJobs, UsedKey}
use Rattle.jobs.specs.Taking.{take_told, TakeSays}
use Rattle.jobs.specs.declared.Job.{Job}
use Rattle.jobs.specs.declared.Took.{Took}
use Rattle.jobs.specs.declared.Took.TheVariants.{Joined, Started}
use Rattle.book.specs.steps.Step.{Goes}
use Rattle.book.proofs.step.step_at.Goals as goal

does : (j : Job) (row : Option Keyed) {keyed : Keyed} → row ≡ Some keyed → (a : Result Took Refusal) (next : Job) → TakeSays j keyed (take_told a) next → Goes j row a next
does j row e (Err TooLong) next t = let n = t.0 in absurd (omega arith)
does j row e (Err NotCsv) next t = let n = t.0 in absurd (omega arith)
does j row e (Err NoForm) next t = let n = t.0 in absurd (omega arith)
does j row {keyed} e (Err Misplaced) next t = (record { keyed = keyed; has_form = e; misplaced = t.1 }, t.2)
does j row e (Err TooManyJobs) next t = let n = t.0 in absurd (omega arith)
does j row e (Err UsedKey) next t = let n = t.0 in absurd (omega arith)
does j row {keyed} e (Ok Joined) next t = record { keyed = keyed; has_form = e; taken = t }
does j row {keyed} e (Ok Started) next t = record { keyed = keyed; has_form = e; taken = t }

pub returns-in_default : goal.returns-in_default
returns-in_default c = record { row = c.read_row-read.result.row; seen = c.read_row-read.ensures; goes = (c.in_default.is, refl) }

pub returns : goal.returns
returns c =
    record {
      row = c.read_row-read.result.row;
      seen = c.read_row-read.ensures;
      goes = does c.args.job c.read_row-read.result.row c.in-Some.is c.take-taken.result.answer c.take-taken.result.job c.take-taken.ensures;
    }
