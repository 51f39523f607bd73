-- The letters put are those of the combination.
use mathlib.Core.Path.{ap}
use Rattle.printing.specs.line_fields.Text.{combination_text}
use Rattle.block.proofs.Pages.{spelled}
use Rattle.printing.proofs.put_combination.Goals as goal

pub returns-in-I : goal.returns-in-I
unfolding combination_text
returns-in-I c = spelled _ _ _ _ _ (ap combination_text c.in-I.is) c.put.ensures tt

pub returns-in-II : goal.returns-in-II
unfolding combination_text
returns-in-II c = spelled _ _ _ _ _ (ap combination_text c.in-II.is) c.put-in-II.ensures tt

pub returns-in-III : goal.returns-in-III
unfolding combination_text
returns-in-III c = spelled _ _ _ _ _ (ap combination_text c.in-III.is) c.put-in-III.ensures tt

pub returns-in-IV : goal.returns-in-IV
unfolding combination_text
returns-in-IV c = spelled _ _ _ _ _ (ap combination_text c.in-IV.is) c.put-in-IV.ensures tt
