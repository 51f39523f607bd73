-- The four parts of the line, put into an empty page, are the block of their text.
use Prim.Native.Nat.{ℕ, ◌≤◌}
use mathlib.Core.Path.{◌≡◌, refl, subst, ◌∙◌}
use native.Mathlib.Omega.{arith}
use lib.ListN.{length}
use Rattle.block.specs.declared.Block.{Block}
use Rattle.block.specs.Block.{blank, block_of, Put}
use Rattle.printing.specs.refused_book.Text.{book_text}
use Rattle.block.proofs.Pages.{puts_blank, spelled, then_put}
use Rattle.printing.proofs.refused_book.book_line.Goals as goal

whole : (number row : ℕ) (b r : Block) (n : ℕ) {m : ℕ} → b ≡ blank → m ≡ number → Put b (book_text m row) n r → n ≤ 2048
    → (r ≡ block_of (book_text number row)) × (length (book_text number row) ≤ 2048)
whole number row b r n empty is put few =
    let p = subst (λ (b : Block). Put b (book_text number row) n r) empty (subst (λ (m : ℕ). Put b (book_text m row) n r) is put) in
    (p.is ∙ puts_blank _, omega (arith, p.short))

pub returns : goal.returns
unfolding book_text
returns c =
    let w =
    whole c.args.number c.args.row _ _ _ c.new-page.ensures c.from.ensures
    (then_put _ _ _ _ _ 6 _ (spelled _ _ _ _ _ refl c.put.ensures tt)
    (then_put _ _ _ _ _ _ _ c.put_number.ensures.adds
    (then_put _ _ _ _ _ _ 5 c.put_number-2.ensures.adds (spelled _ _ _ _ _ refl c.put-2.ensures tt))))
    (omega (arith, c.put_number.ensures.n_len_bound, c.put_number-2.ensures.n_len_bound)) in
    record { value = w.0; whole = w.1 }
