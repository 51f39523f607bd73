-- VERDICT, and behind it the other lines unless it stands alone, put into an empty page, are the block of their text; the room that
-- they take was counted along.
use Prim.Native.Nat.{◌+◌, ◌≤◌}
use mathlib.Core.Path.{◌≡◌, refl, subst, ◌∙◌}
use mathlib.Core.List.{[]}
use native.Mathlib.Omega.{arith}
use lib.ListN.{length}
use Rattle.rows.specs.declared.keys.Key.{Key}
use Rattle.lines.specs.declared.Answer.{Answer}
use Rattle.lines.specs.Lines.{later_lines}
use Rattle.lines.specs.Numbered.{Numbered}
use Rattle.block.specs.declared.Block.{Block}
use Rattle.block.specs.Block.{blank, block_of, Put}
use Rattle.block.proofs.Pages.{puts_blank}
use Rattle.printing.specs.AnswerText.{text}
use Rattle.printing.specs.steps.Room.{answer_room}
use Rattle.printing.proofs.Printed.{no_line, alone_holds, alone_fails, answer_printed}
use Rattle.printing.proofs.Room.{room_fits}
use Rattle.printing.proofs.answer_text.Goals as goal

whole : (key : Key) (answer : Answer) (b r : Block) → b ≡ blank → Put b (text key answer) (43 + answer_room answer) r
    → (r ≡ block_of (text key answer)) × (Numbered answer → length (text key answer) ≤ 2048)
whole key answer b r empty put =
    let p = subst (λ (b : Block). Put b (text key answer) (43 + answer_room answer) r) empty put in
    (p.is ∙ puts_blank _, λ numbered. omega (arith, p.short, room_fits _ numbered))

pub returns-then-not-stands_alone : goal.returns-then-not-stands_alone
returns-then-not-stands_alone c =
    let answer = c.args.answer in
    let w =
    whole _ answer _ _ c.new-page.ensures
    (answer_printed _ answer _ _ _ (later_lines answer) _ (alone_fails answer.verdict _ c.if-not-stands_alone.true c.stands_alone.ensures _) c.put_verdict.ensures
    c.put_later.ensures) in
    record { value = w.0; whole = w.1 }

pub returns-else-not-stands_alone : goal.returns-else-not-stands_alone
returns-else-not-stands_alone c =
    let answer = c.args.answer in
    let w =
    whole _ answer _ _ c.new-page.ensures
    (answer_printed _ answer _ _ _ [] _ (alone_holds answer.verdict _ c.if-not-stands_alone.false c.stands_alone.ensures _) c.put_verdict.ensures
    (no_line _ _ _ _ refl)) in
    record { value = w.0; whole = w.1 }
