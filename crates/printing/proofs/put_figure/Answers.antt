-- A word is its own bytes; a number has at most 20 digits.
use mathlib.Core.Path.{ap}
use mathlib.Core.List.{List}
use Prim.Native.Nat.{ℕ}
use native.Mathlib.Omega.{arith}
use Rattle.checks.specs.declared.Figure.{Figure}
use Rattle.lines.specs.Lines.{value_of}
use Rattle.block.specs.Fields.{field}
use Rattle.printing.specs.line_fields.Text.{value_text}
use Rattle.block.proofs.Pages.{spelled, put_as}
use Rattle.printing.proofs.put_figure.Goals as goal

abbrev said : Figure → List ℕ
said figure = field (value_text (value_of figure))

pub returns-in-Nothing : goal.returns-in-Nothing
unfolding value_text value_of
returns-in-Nothing c = spelled _ _ _ _ _ (ap said c.in-Nothing.is) c.put.ensures tt

pub returns-in-Number : goal.returns-in-Number
unfolding value_text value_of
returns-in-Number c = put_as _ _ _ _ _ _ (ap said c.in-Number.is) (omega (arith, c.put_number.ensures.n_len_bound)) c.put_number.ensures.adds

pub returns-in-Off : goal.returns-in-Off
unfolding value_text value_of
returns-in-Off c = spelled _ _ _ _ _ (ap said c.in-Off.is) c.put-in-Off.ensures tt
