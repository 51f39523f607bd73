-- The fields are put one behind the other; a missing line has no text.
use mathlib.Core.Path.{ap}
use Rattle.lines.specs.Lines.{check_line}
use Rattle.printing.proofs.Printed.{no_line, mark_put, check_printed}
use Rattle.printing.proofs.put_line.Goals as goal

pub returns-in-Missing : goal.returns-in-Missing
unfolding check_line
returns-in-Missing c = no_line _ _ _ _ (ap (check_line _ _) c.in-Missing.is)

pub returns-in-Shown : goal.returns-in-Shown
returns-in-Shown c =
    check_printed _ _ _ _ _ _ _ _ _ _ _ _ _ _ _ _ _ _ c.in-Shown.is c.put_key.ensures c.put_combination.ensures c.put_check.ensures c.put_figure.ensures c.put_number.ensures.adds
    c.put_number.ensures.n_len_bound c.put_number-in-Shown.ensures.adds (mark_put _ _ _ c.put_letter.ensures) c.put_ending.ensures
