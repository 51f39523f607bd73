-- A minus stands before the digits of a number below zero.
use Prim.Native.Nat.{◌<◌, ℕ}
use mathlib.Core.Path.{refl, ap, ◌∙◌}
use mathlib.Core.Bool.{Bool, cond}
use mathlib.Core.List.{List}
use native.Mathlib.Omega.{arith}
use borrow.Author.Rules.{rules}
use Rattle.block.specs.Fields.{field}
use Rattle.block.proofs.Numbers.{decimal_length}
use Rattle.block.proofs.Pages.{then_put, spelled, put_as}
use Rattle.lines.specs.Lines.{number, minus, signed_value}
use Rattle.printing.specs.line_fields.Text.{value_text}
use Rattle.printing.proofs.line_fields.put_signed.Goals as goal
use Rattle.printing.proofs.line_fields.put_signed.Goals.{then-amount, else-amount}

abbrev said : ℕ → Bool → List ℕ
said size below = field (value_text (cond below (minus size) (number size)))

pub returns : goal.returns
unfolding value_text signed_value
returns c =
    let size = c.args.amount.size in
    let small : size < 18446744073709551616 = search rules in
    let most = decimal_length 19 size (omega arith) in
    elim c.if-amount.branch [
      | then-amount w ↦ put_as _ _ _ _ 22 22 (ap (said size) w.if-amount.true) (omega arith)
          (then_put _ _ _ _ _ 1 21 (spelled _ _ _ _ 1 refl c.push.ensures tt)
          (then_put _ _ _ _ _ 1 20 (spelled _ _ _ _ 1 refl (w.page-is ∙ w.push-then-amount.ensures) tt) (record { is = c.put_decimal.ensures; short = most })))
      | else-amount w ↦ put_as _ _ _ _ 21 22 (ap (said size) w.if-amount.false) (omega arith)
          (then_put _ _ _ _ _ 1 20 (spelled _ _ _ _ 1 refl (w.page-is ∙ c.push.ensures) tt) (record { is = c.put_decimal.ensures; short = most }))
    ]
