-- A block's text in a lent buffer, and that the promise of it gives one answer and one state of the buffer.
use Prim.Native.Nat.{ℕ, ◌≤◌, ◌<◌, min}
use mathlib.Core.Path.{◌≡◌, refl, sym, ap, ◌∙◌}
use mathlib.Core.List.{List, ◌++◌}
use native.Mathlib.Omega.{arith}
use native.Mathlib.Decide.{dec_le}
use lib.ListN.{length, take, drop, length-take}
use lib.Seq.{take_all}
use Rattle.arithmetic.proofs.Cases.{impossible}
use Rattle.block.specs.declared.Block.{Block}
use Rattle.std.specs.Prelude.{Result, Ok, Err}
use Rattle.buffer.specs.declared.TooShort.{TooShort}
use Rattle.block.specs.Block.{text_held}
use Rattle.buffer.specs.Copying.{CopyTold, wrote, refused, copy_told, Wrote}

module _ (block : Block) (n : ℕ) (whole : length block.bytes ≡ 2048) (cut : n ≡ min block.len 2048) where
  held_length : length (text_held block) ≡ n
  unfolding text_held
  held_length = rw length-take (omega arith)

  held_bytes : take n block.bytes ≡ text_held block
  unfolding text_held
  held_bytes = elim (dec_le block.len 2048) [
    | yes h ↦ let e : n ≡ block.len = omega arith in rw e
    | no h ↦ take_all n block.bytes (omega arith) ∙ sym (take_all block.len block.bytes (omega arith))
  ]

  pub too_short : (before : List ℕ) (short : TooShort) → length before < n → Wrote (text_held block) before before (copy_told (Err short))
  unfolding Wrote copy_told
  too_short before short h = (rw held_length h, refl, refl, refl)

  pub written_whole : (before after source : List ℕ) → n ≤ length before → source ≡ take n block.bytes
      → after ≡ source ++ drop n before → Wrote (text_held block) before after (copy_told (Ok n))
  unfolding Wrote copy_told
  written_whole before after source h e copied =
      let s : source ≡ text_held block = e ∙ held_bytes in
      (rw held_length h, sym held_length, copied ∙ rw (s, held_length))

pub wrote_one : (t before after after' : List ℕ) (a b : CopyTold) → Wrote t before after a → Wrote t before after' b → (a ≡ b) × (after ≡ after')
unfolding Wrote
wrote_one t before after after' (wrote m) (wrote n) p q = (ap wrote (p.1 ∙ sym q.1), p.2 ∙ sym q.2)
wrote_one t before after after' (wrote m) (refused k row) p q = absurd (omega arith)
wrote_one t before after after' (refused k row) (wrote n) p q = absurd (omega arith)
wrote_one t before after after' (refused k row) (refused j line) p q = (cc (p.1, p.2, q.1, q.2), p.3 ∙ sym q.3)

pub copy_told_one : (a b : Result ℕ TooShort) → copy_told a ≡ copy_told b → a ≡ b
unfolding copy_told
copy_told_one (Ok m) (Ok n) e = cc
copy_told_one (Ok m) (Err t) e = impossible cc
copy_told_one (Err s) (Ok n) e = impossible cc
copy_told_one (Err s) (Err t) e = refl
