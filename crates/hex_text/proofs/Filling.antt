-- A text is put into a lent buffer from its start, byte by byte: the buffer holds the start of the text and behind it what it held, and a store adds one byte.
use Prim.Native.Nat.{ℕ, ◌+◌, ◌≤◌, ◌<◌}
use mathlib.Core.Path.{◌≡◌, sym, ◌∙◌}
use mathlib.Core.List.{List, ◌++◌}
use native.Mathlib.Nat.{zero-add}
use native.Mathlib.Numerals.{add-one}
use native.Mathlib.Omega.{arith}
use lib.ListN.{length, take, drop, get_or, set, length-set}
use lib.Seq.{length-take-le, paste-suc}
use Rattle.hex_text.specs.Hex.{IsPrefixLen}

-- the first i bytes of the text stand in the buffer, and behind them what it held
pub record Filled (text before after : List ℕ) (i : ℕ) : Type 0 where
  pub enough : i ≤ length text
  pub room : i ≤ length before
  pub whole : length after ≡ length before
  pub holds : after ≡ take i text ++ drop i before

module _ (text before after : List ℕ) (i : ℕ) (h : Filled text before after i) where
  -- the next byte of the text is stored
  pub fills_next : (c : ℕ) → c ≡ get_or text i 0 → i < length text → i < length before → Filled text before (set after i c) (i + 1)
  fills_next c e more room =
      record {
        enough = omega arith;
        room = omega arith;
        whole = length-set after i c ∙ h.whole;
        holds = let next = paste-suc before 0 text i 0 (omega arith) more in rw (e, h.holds, add-one) (simp zero-add at next);
      }

  -- i counts bytes at the start of the buffer
  pub fills_count : IsPrefixLen i after
  fills_count = let few : i ≤ length after = omega (arith, h.room, h.whole) in (few, sym (length-take-le i after few))
