-- A comma, and the letter behind it.
use Prim.Native.Nat.{ℕ}
use mathlib.Core.Path.{◌≡◌, sym, ap, ◌∙◌}
use mathlib.Core.Bool.{Bool, cond}
use mathlib.Core.List.{[], ◌∷◌}
use native.Mathlib.Omega.{arith}
use Rattle.csv_text.specs.rfc4180.Rfc4180.{COMMA}
use Rattle.block.specs.Block.{puts}
use Rattle.block.proofs.Pages.{then}
use Rattle.printing.proofs.put_letter.Goals as goal
use Rattle.printing.proofs.put_letter.Goals.{then-holds, else-holds}

pub returns : goal.returns
returns c =
    let chosen = λ (h : Bool). cond h c.args.yes c.args.no in
    let letter : c.if-holds.push ≡ chosen c.args.holds =
    elim c.if-holds.branch [ then-holds w ↦ w.push-is ∙ sym (ap chosen w.if-holds.true) | else-holds w ↦ w.push-is ∙ sym (ap chosen w.if-holds.false) ] in
    record { is = then _ _ _ (COMMA ∷ []) _ c.push.ensures (c.push-2.ensures ∙ ap (λ (x : ℕ). puts c.push.new.self (x ∷ [])) letter); short = omega arith }
