-- The table of steps: an entry that is written is read back, and nothing else moves.
use mathlib.Core.Path.{◌≡◌, ◌∙◌, ap}
use mathlib.Core.List.{List}
use Prim.Native.Nat.{ℕ, ◌<◌}
use native.Mathlib.Omega.{arith}
use lib.ListN.{length, set, length-set}
use lib.Seq.{get_or-set_same, get_or-set_other}
use Rattle.sums.specs.declared.carried.Carried.{Carried}
use Rattle.worst.specs.steps.Steps.{no_change, change_from}

-- after is before with entry i set to this change
pub record Puts (before : List Carried) (i : ℕ) (change : Carried) (after : List Carried) : Type 0 where
  pub fits : i < length before
  pub written : after ≡ set before i change

module _ {before : List Carried} {j : ℕ} {step : Carried} {after : List Carried} (p : Puts before j step after) where
  pub puts_size : length after ≡ length before
  puts_size = ap length p.written ∙ length-set before j step

  pub puts_own : change_from after j ≡ step
  unfolding change_from
  puts_own = rw p.written (get_or-set_same before j step no_change p.fits)

  pub puts_others : (i : ℕ) → i < j → change_from after i ≡ change_from before i
  unfolding change_from
  puts_others i h = rw p.written (get_or-set_other before j i step no_change (λ e. omega arith))
