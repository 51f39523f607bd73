-- The twelve parts of the row, put into an empty page, are the block of their text.
use mathlib.Core.Path.{◌≡◌, ap, ◌∙◌}
use mathlib.Core.List.{List, ◌++◌, append_assoc}
use Prim.Native.Nat.{ℕ}
use Rattle.block.specs.Block.{blank, puts, block_of}
use Rattle.block.specs.declared.Block.{Block}
use Rattle.block.specs.Fields.{field, line_end}
use Rattle.block.proofs.Pages.{puts_blank, then}
use Rattle.kinds.specs.declared.Numbers.{Numbers}
use Rattle.reactions.specs.row.Text.{entry_text, fields_text, row_text}
use Rattle.reactions.proofs.row.row_block.Goals as goal

-- the row as it is put: each part before all that follow
abbrev parts : List ℕ → List ℕ → List ℕ → Numbers → List ℕ
parts member job kind n =
    member
    ++ (field job
    ++ (field kind
    ++ (field (entry_text n.n1)
    ++ (field (entry_text n.n2)
    ++ (field (entry_text n.n3)
    ++ (field (entry_text n.n4)
    ++ (field (entry_text n.n5)
    ++ (field (entry_text n.n6)
    ++ field line_end))))))))

joined : (member job kind : List ℕ) (n : Numbers) (r : Block) → r ≡ puts blank (parts member job kind n) → r ≡ block_of (row_text member job kind n)
unfolding row_text fields_text
joined member job kind n r e = let text : row_text member job kind n ≡ parts member job kind n = simp append_assoc in rw text (e ∙ puts_blank _)

pub returns : goal.returns
returns c =
    joined _ _ _ _ _
    (then blank _ _ _ _ (c.put.ensures ∙ ap (λ (b : Block). puts b c.args.member.now) c.new-page.ensures)
    (then _ _ _ _ _ c.push.ensures
    (then _ _ _ _ _ c.put-2.ensures
    (then _ _ _ _ _ c.push-2.ensures
    (then _ _ _ _ _ c.put-3.ensures
    (then _ _ _ _ _ c.put_entry.ensures
    (then _ _ _ _ _ c.put_entry-2.ensures
    (then _ _ _ _ _ c.put_entry-3.ensures
    (then _ _ _ _ _ c.put_entry-4.ensures
    (then _ _ _ _ _ c.put_entry-5.ensures
    (then _ _ _ _ _ c.put_entry-6.ensures c.put-4.ensures)))))))))))
