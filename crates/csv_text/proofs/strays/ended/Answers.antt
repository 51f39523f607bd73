-- A field's comma leads to the next field, and a CR to its row's end.
use Rattle.csv_text.specs.steps.NextSpot.{by_comma, by_return}
use Rattle.csv_text.proofs.strays.ended.Goals as goal

pub returns-in-44 : goal.returns-in-44
returns-in-44 c = by_comma c.in-44.is

pub returns-in-13 : goal.returns-in-13
returns-in-13 c = by_return c.in-13.is
