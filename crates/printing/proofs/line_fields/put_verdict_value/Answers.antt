-- A letter is its own byte; a refusal's number has at most three digits.
use Prim.Native.Nat.{◌<◌, ℕ}
use mathlib.Core.Path.{sym, ap, ◌∙◌}
use mathlib.Core.List.{List}
use native.Mathlib.Omega.{arith}
use Rattle.lines.specs.declared.Verdict.{Verdict}
use Rattle.lines.specs.Lines.{verdict_value}
use Rattle.block.specs.Decimal.{decimal}
use Rattle.block.specs.Fields.{field}
use Rattle.printing.specs.line_fields.Text.{value_text}
use Rattle.block.proofs.Numbers.{decimal_length}
use Rattle.block.proofs.Pages.{spelled, put_as}
use borrow.Author.Rules.{rules}
use Rattle.printing.proofs.line_fields.put_verdict_value.Goals as goal

abbrev said : Verdict → List ℕ
said verdict = field (value_text (verdict_value verdict))

pub returns-in-Accepted : goal.returns-in-Accepted
unfolding value_text verdict_value
returns-in-Accepted c = spelled _ _ _ _ _ (ap said c.in-Accepted.is) c.put.ensures tt

pub returns-in-NotAccepted : goal.returns-in-NotAccepted
unfolding value_text verdict_value
returns-in-NotAccepted c = spelled _ _ _ _ _ (ap said c.in-NotAccepted.is) c.put-in-NotAccepted.ensures tt

pub returns-in-Refused : goal.returns-in-Refused
unfolding value_text verdict_value
returns-in-Refused c =
    let small : c.in-Refused.number < 256 = search rules in
    put_as _ _ _ _ _ 4 (ap said c.in-Refused.is ∙ ap (λ (n : ℕ). field (decimal n)) (sym c.from.ensures)) (omega (arith, decimal_length 2 c.from.result (omega (arith, c.from.ensures))))
    c.put_number.ensures.adds
