-- The lines of the four combinations, then SC and CL.
use mathlib.Core.Path.{refl}
use Rattle.lines.specs.Lines.{SC, CL, later_lines}
use Rattle.printing.specs.line_fields.Text.{name_text}
use Rattle.printing.specs.steps.Room.{answer_room}
use Rattle.printing.proofs.Printed.{then_lines}
use Rattle.printing.proofs.put_later.Goals as goal

pub returns : goal.returns
unfolding later_lines answer_room name_text
returns c =
    then_lines _ _ _ _ _ _ _ _ c.put_lines.ensures
    (then_lines _ _ _ _ _ _ _ _ c.put_lines-2.ensures
    (then_lines _ _ _ _ _ _ _ _ c.put_lines-3.ensures
    (then_lines _ _ _ _ _ _ _ _ c.put_lines-4.ensures (then_lines _ _ _ _ _ _ 78 78 (c.put_river_line.ensures SC refl) (c.put_river_line-2.ensures CL refl)))))
