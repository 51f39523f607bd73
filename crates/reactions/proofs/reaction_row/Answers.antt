-- 26, then 21, 22 and 23 as the numbers of the row are told, then 27, else the row.
use Prim.Native.Nat.{ℕ, ◌≤◌}
use mathlib.Core.Path.{◌≡◌, refl, sym, ap, subst, ◌∙◌}
use mathlib.Core.List.{List}
use lib.ListN.{length}
use Rattle.std.specs.Prelude.{Result, Ok, Err}
use Rattle.std.specs.Result.{IsErrAnd}
use Rattle.block.specs.Block.{block_of, text_held}
use Rattle.block.specs.declared.Block.{Block}
use Rattle.block.proofs.Pages.{block_held}
use Rattle.buffer.specs.Copying.{CopyTold, wrote, Wrote, copy_told}
use Rattle.buffer.specs.Copying as buffer
use Rattle.buffer.specs.declared.TooShort.{TooShort}
use Rattle.kinds.specs.declared.Kind.{Kind}
use Rattle.kinds.specs.declared.Numbers.{Numbers}
use Rattle.rows.specs.declared.keys.Key.{Key}
use Rattle.reactions.specs.declared.RowRefusal.{RowRefusal}
use Rattle.reactions.specs.declared.RowRefusal.TheVariants as refusal
use Rattle.reactions.specs.row.Text.{row_text}
use Rattle.reactions.specs.Asked.{Asked}
use Rattle.reactions.specs.Reacts.{written, row_told, Reacts, no_record, not_finite, out_of_range, too_short, row, GivesRow}
use Rattle.reactions.specs.steps.Calling.{NumbersIs}
use Rattle.reactions.proofs.row.Written.{row_short}
use Rattle.reactions.proofs.reaction_row.Goals as goal

module _ {member job kind sent : List ℕ} {phase : ℕ} {key : Key} {of : Kind} (asked : Asked member job kind phase key of) where
  -- a record that gives no numbers, by the way that `?` tells it
  refused : (before : List ℕ) (why : RowRefusal) → NumbersIs sent of phase (Err why) → Reacts member job kind phase sent before before (row_told (Err why))
  refused before refusal.NoRow w = absurd w
  refused before refusal.NoRecord w = no_record asked w refl refl
  refused before refusal.NotFinite w = not_finite asked w.1 w.2 refl refl
  refused before refusal.OutOfRange w = out_of_range asked w.2 w.3 w.4 w.5 refl refl
  refused before refusal.TooShort w = absurd w

  told : (before : List ℕ) (r : Result ℕ RowRefusal) (why : RowRefusal) → IsErrAnd r (λ e. e ≡ why) → NumbersIs sent of phase (Err why)
      → Reacts member job kind phase sent before before (row_told r)
  told before (Ok n) why i w = absurd i
  told before (Err x) why i w = subst (λ (y : RowRefusal). Reacts member job kind phase sent before before (row_told (Err y))) (sym i) (refused before why w)

  -- the row that numbers give, and that its block holds it whole
  module _ {numbers : Numbers} (w : NumbersIs sent of phase (Ok numbers)) where
    gives : GivesRow member job kind phase sent (row_text member job kind numbers)
    gives = record {
      key = key;
      of = of;
      reaction = w.0;
      rounded = w.1;
      asked = asked;
      is = w.2;
      finite = w.3;
      rounds = w.4;
      ranged = w.5;
      text = ap (row_text _ _ _) w.6;
    }

    module _ {block : Block} (before after : List ℕ) (is : block ≡ block_of (row_text member job kind numbers)) where
      delivered : (t : CopyTold) → Wrote (text_held block) before after t → Wrote (row_text member job kind numbers) before after t
      delivered t =
          let g = gives in
          let short : length (row_text member job kind numbers) ≤ 2048 = subst (λ (s : List ℕ). length s ≤ 2048) (sym g.text) (row_short g.rounded g.asked g.ranged) in
          subst (λ (s : List ℕ). Wrote s before after t) (ap text_held is ∙ block_held _ short)

      written_whole : {n : ℕ} → Wrote (text_held block) before after (copy_told (Ok n)) → Reacts member job kind phase sent before after (written n)
      unfolding Wrote copy_told
      written_whole {n} v = let w = delivered (wrote n) v in row gives w.0 w.2 (ap written w.1)

      -- a buffer that is too short
      no_room : {short : TooShort} (r : Result ℕ RowRefusal) → Wrote (text_held block) before after (copy_told (Err short)) → IsErrAnd r (λ e. e ≡ refusal.TooShort)
          → Reacts member job kind phase sent before after (row_told r)
      unfolding Wrote copy_told
      no_room (Ok n) v i = absurd i
      no_room (Err x) v i = let w = delivered (buffer.refused 7 0) v in too_short gives w.0 w.3 (ap (λ (y : RowRefusal). row_told (Err y)) i)

pub returns-in_err-numbers : goal.returns-in_err-numbers
returns-in_err-numbers c = told c.in-Some.ensures.1 _ _ _ c.from_residual.ensures.1 c.in_err-numbers.ensures

pub returns-in_err-write_block : goal.returns-in_err-write_block
returns-in_err-write_block c =
    no_room c.in-Some.ensures.1 c.in_ok-numbers.ensures _ _ c.row_block.ensures _ c.in_err-write_block.ensures c.from_residual-in_err-write_block.ensures.1

pub returns : goal.returns
returns c = written_whole c.in-Some.ensures.1 c.in_ok-numbers.ensures _ _ c.row_block.ensures c.in_ok-write_block.ensures
