-- Each way to stop is one place where the refusal lies; a row that is refused as out of place breaks a rule, so that one is always found.
use Rattle.std.proofs.Common.{◌∙◌, ap}
use Rattle.std.specs.Prelude.{Err}
use Rattle.book.proofs.faults.Lying.{stop_reached, formless_lies, formless_found, misplaced_lies, misplaced_found, surplus_lies, reused_among, reused_lies, short_lies, whole_lies}
use Rattle.book.proofs.faults.stop_fault.Goals as goal

pub returns-then-stop-eq0 : goal.returns-then-stop-eq0
returns-then-stop-eq0 c = short_lies c.args.stop c.requires.s_len_bound c.in_default.is c.if-stop-eq0.true c.requires.stop_is

pub returns-in_default : goal.returns-in_default
returns-in_default c = whole_lies c.args.stop c.requires.s_len_bound c.in_default.is c.if-stop-eq0.false c.requires.stop_is

pub returns-in_err-fault-in-NoForm : goal.returns-in_err-fault-in-NoForm
returns-in_err-fault-in-NoForm c =
    absurd (formless_found c.args.stop c.requires.s_len_bound (c.in-Err.is ∙ ap Err c.in-NoForm.is) c.in_err-fault-in-NoForm.ensures c.requires.stop_is)

pub rule_at-requires-clause-readable : goal.rule_at-requires-clause-readable
rule_at-requires-clause-readable c = record { rows = _; reading = (stop_reached c.args.stop c.requires.s_len_bound c.in-Err.why c.in-Err.is c.requires.stop_is).here }

pub returns-in_err-rule-in-Misplaced : goal.returns-in_err-rule-in-Misplaced
returns-in_err-rule-in-Misplaced c =
    absurd (misplaced_found c.args.stop c.requires.s_len_bound (c.in-Err.is ∙ ap Err c.in-Misplaced.is) c.in_err-rule-in-Misplaced.ensures c.requires.stop_is)

pub earlier_row-earlier-requires : goal.earlier_row-earlier-requires
earlier_row-earlier-requires c = reused_among c.args.stop c.requires.s_len_bound (c.in-Err.is ∙ ap Err c.in-UsedKey.is) c.requires.stop_is

pub returns-in_ok-fault-in-NoForm : goal.returns-in_ok-fault-in-NoForm
returns-in_ok-fault-in-NoForm c = formless_lies c.args.stop c.requires.s_len_bound (c.in-Err.is ∙ ap Err c.in-NoForm.is) c.in_ok-fault-in-NoForm.fault c.in_ok-fault-in-NoForm.ensures c.requires.stop_is

pub returns-in_ok-rule-in-Misplaced : goal.returns-in_ok-rule-in-Misplaced
returns-in_ok-rule-in-Misplaced c =
    misplaced_lies c.args.stop c.requires.s_len_bound (c.in-Err.is ∙ ap Err c.in-Misplaced.is) c.in_ok-rule-in-Misplaced.rule c.in_ok-rule-in-Misplaced.ensures c.requires.stop_is

pub returns-in-TooManyJobs : goal.returns-in-TooManyJobs
returns-in-TooManyJobs c = surplus_lies c.args.stop c.requires.s_len_bound (c.in-Err.is ∙ ap Err c.in-TooManyJobs.is) c.requires.stop_is

pub returns-in-UsedKey : goal.returns-in-UsedKey
returns-in-UsedKey c = reused_lies c.args.stop c.requires.s_len_bound c.earlier_row-earlier.result (c.in-Err.is ∙ ap Err c.in-UsedKey.is) c.earlier_row-earlier.ensures c.requires.stop_is
