-- The five lines of a combination, one behind the other.
use Rattle.lines.specs.Lines.{combination_lines}
use Rattle.printing.specs.steps.Room.{lines_room}
use Rattle.printing.proofs.Printed.{then_lines}
use Rattle.printing.proofs.put_lines.Goals as goal

pub returns : goal.returns
unfolding combination_lines lines_room
returns c =
    then_lines _ _ _ _ _ _ _ _ c.put_line.ensures
    (then_lines _ _ _ _ _ _ _ _ c.put_line-2.ensures
    (then_lines _ _ _ _ _ _ _ _ c.put_line-3.ensures (then_lines _ _ _ _ _ _ _ _ c.put_line-4.ensures c.put_line-5.ensures)))
