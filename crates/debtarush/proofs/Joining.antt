-- A text behind a text, in a lent buffer: what a part that was written and is back makes of the whole.
use Prim.Native.Nat.{ℕ, ◌+◌, ◌-◌, ◌≤◌}
use native.Mathlib.Omega.{arith}
use mathlib.Core.Path.{◌≡◌, refl, sym, ap, subst, ◌∙◌}
use mathlib.Core.List.{List, [], ◌++◌, append-nil, append_assoc}
use lib.ListN.{length, take, drop, length-append, length-drop, length-take, drop_of_length-le}
use lib.Seq.{take_all, drop-drop, take-append_seam, drop-append-add}
use Rattle.block.specs.declared.Block.{Block}
use Rattle.block.specs.Block.{text_held}
use Rattle.std.specs.Prelude.{Result, Ok, Err}
use Rattle.buffer.specs.declared.TooShort.{TooShort}
use Rattle.buffer.specs.Copying.{copy_told, Wrote}
use Rattle.debtarush.specs.steps.Behind.{Behind}

-- a block's text has no more bytes than the block
pub held_few : (block : Block) → length block.bytes ≡ 2048 → length (text_held block) ≤ 2048
unfolding text_held
held_few block whole = rw length-take (omega arith)

-- the part of a buffer from `at` on
module _ (at : ℕ) (text out last : List ℕ) where
  abbrev part : List ℕ
  part = take (length out - at) (drop at out)

  part_whole : part ≡ drop at out
  part_whole = take_all (length out - at) (drop at out) (rw length-drop (omega arith))

  nothing_behind : drop (length out - at) (drop at out) ≡ []
  nothing_behind = drop_of_length-le (drop at out) {i = length out - at} (rw length-drop (omega arith))

  pub appended : {w : Result ℕ TooShort} {n : ℕ} → w ≡ Ok n → Wrote text part last (copy_told w)
      → Behind at text out (take at out ++ (last ++ drop (length out - at) (drop at out))) (at + n)
  unfolding Wrote copy_told
  appended e v =
      let u = subst (λ (x : Result ℕ TooShort). Wrote text part last (copy_told x)) e v in
      record { ends = ap (λ (m : ℕ). at + m) u.1; whole = rw (nothing_behind, append-nil, u.2, part_whole, drop-drop, u.1) }

  -- there is room, so that nothing is refused, and the end fits
  pub no_room : at + length text ≤ length out → {w : Result ℕ TooShort} {short : TooShort} → w ≡ Err short → Wrote text part last (copy_told w) → ⊥
  unfolding Wrote copy_told
  no_room room e v =
      let u = subst (λ (x : Result ℕ TooShort). Wrote text part last (copy_told x)) e v in
      let short = u.0 in
      omega (arith, ap length part_whole, length-drop at out)

  pub ends_within : at + length text ≤ length out → {w : Result ℕ TooShort} {n : ℕ} → w ≡ Ok n → Wrote text part last (copy_told w) → at + n ≤ length out
  unfolding Wrote copy_told
  ends_within room e v =
      let u = subst (λ (x : Result ℕ TooShort). Wrote text part last (copy_told x)) e v in
      omega (arith, u.1)

-- a text at the start of a buffer, and the rest of the buffer as it was
pub record Starts (text before after : List ℕ) (end : ℕ) : Type 0 where
  pub long : end ≡ length text
  pub whole : after ≡ text ++ drop (length text) before

-- a buffer that has room for it is as long as it was
pub starts_same : {text before after : List ℕ} {end : ℕ} → Starts text before after end → end ≤ length before → length after ≡ length before
starts_same {text} {before} s fits = omega (arith, s.long, ap length s.whole, length-append text (drop (length text) before), length-drop (length text) before)

pub starts_none : (before : List ℕ) → Starts [] before before 0
starts_none before = record { long = refl; whole = refl }

pub starts_first : {text before after : List ℕ} {end : ℕ} → Behind 0 text before after end → Starts text before after end
starts_first {text} {before} {end = end} b =
    let e = b.ends in
    let long : end ≡ length text = omega arith in
    record { long = long; whole = b.whole ∙ ap (λ (n : ℕ). text ++ drop n before) long }

pub starts_more : {first text before middle after : List ℕ} {at end : ℕ} → Starts first before middle at → Behind at text middle after end → Starts (first ++ text) before after end
starts_more {first} {text} s b = record {
  long = b.ends ∙ ap (λ (n : ℕ). n + length text) s.long ∙ sym (length-append first text);
  whole = b.whole ∙ rw (b.ends, s.whole, s.long, take-append_seam, drop-append-add, drop-drop, length-append, append_assoc);
}
