-- The fields are put one behind the other; a missing line has no text.
use mathlib.Core.Path.{ap}
use Rattle.lines.specs.Lines.{river_line}
use Rattle.printing.proofs.Printed.{no_line, mark_put, letters_put, river_printed}
use borrow.Author.Rules.{rules}
use Rattle.printing.proofs.put_river_line.Goals as goal

pub returns-in-Missing : goal.returns-in-Missing
unfolding river_line
returns-in-Missing c = λ name e. no_line _ _ _ _ (ap (river_line _) c.in-Missing.is)

pub returns-in-Shown : goal.returns-in-Shown
returns-in-Shown c = λ name e.
    river_printed _ _ _ _ _ _ _ _ _ name _ _ _ _ _ c.in-Shown.is c.put_key.ensures (letters_put _ _ name _ e (search rules) c.put.ensures) c.put_signed.ensures
    c.put_number.ensures.adds c.put_number.ensures.n_len_bound c.push.ensures (mark_put _ _ _ c.put_letter.ensures) c.put_exactness.ensures
