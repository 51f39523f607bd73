-- The range of an entry by its tests, and the ranges of a row from the answers for its columns; each is a yes or a no.
use Prim.Native.Nat.{ℕ}
use mathlib.Core.Path.{◌≡◌, refl}
use mathlib.Core.Logic.{◌⊎◌, inl, inr}
use mathlib.Core.Bool.{Bool, true, false, not, ◌&&◌, cond}
use lib.Dec.{leb}
use Rattle.arithmetic.specs.decides.Decides.{Decides}
use Rattle.arithmetic.proofs.Deciding.{not_both, unrefuted, decides_same, decides_at_most}
use Rattle.arithmetic.proofs.Tests.{decides_within, all_six, decides_six}
use Rattle.fields.specs.declared.Entry.{Entry}
use Rattle.kinds.specs.ranges.Range.{Between, Around, InRange, InColumns, Ranged}
use Rattle.kinds.specs.Table.{columns}
use Rattle.kinds.specs.declared.Kind.{Kind}
use Rattle.kinds.specs.declared.Column.{Column}
use Rattle.kinds.specs.declared.Column.TheVariants.{Empty, Filled, Signed}
use Rattle.kinds.specs.declared.Columns.{Columns}
use Rattle.kinds.specs.declared.Numbers.{Numbers}

abbrev entry : Bool → Bool → ℕ → Entry
entry filled minus size = record { filled = filled; minus = minus; size = size }

between_decides : (low high : ℕ) (filled minus : Bool) (size : ℕ)
    → Decides (((filled && not minus) && leb low size) && leb size high) (Between low high (entry filled minus size))
between_decides low high false minus size = λ w. not_both w.filled refl
between_decides low high true true size = λ w. not_both refl w.plain
between_decides low high true false size =
    decides_same (leb low size && leb size high) (λ w. record { filled = refl; plain = refl; from = w.0; to = w.1 }) (λ w. (w.from, w.to))
    (decides_within low high size)

around : (below above : ℕ) (filled minus : Bool) (size : ℕ) → Decides (filled && leb size (cond minus below above)) (Around below above (entry filled minus size))
around below above false minus size = λ w. not_both w.filled refl
around below above true true size =
    decides_same (leb size below) (λ h. record { filled = refl; under = λ e. h; over = λ e. absurd (not_both refl e) }) (λ w. w.under refl) (decides_at_most size below)
around below above true false size =
    decides_same (leb size above) (λ h. record { filled = refl; under = λ e. absurd (not_both e refl); over = λ e. h }) (λ w. w.over refl) (decides_at_most size above)

-- the sign says which of two limits is asked
asked : (minus : Bool) (limit below above : ℕ) → ((minus ≡ true) × (limit ≡ below)) ⊎ ((minus ≡ false) × (limit ≡ above)) → limit ≡ cond minus below above
asked minus limit below above (inl w) = rw w.0 w.1
asked minus limit below above (inr w) = rw w.0 w.1

-- the tests of an entry, for a column that asks for a number
module _ (k : Column) (e : Entry) where
  pub filled_decides : (low high : ℕ) → k ≡ Filled low high → Decides (((e.filled && not e.minus) && leb low e.size) && leb e.size high) (InRange k e)
  filled_decides low high q = rw q (between_decides low high e.filled e.minus e.size)

  pub signed_decides : (below above limit : ℕ) → k ≡ Signed below above → ((e.minus ≡ true) × (limit ≡ below)) ⊎ ((e.minus ≡ false) × (limit ≡ above))
      → Decides (e.filled && leb e.size limit) (InRange k e)
  signed_decides below above limit q l = rw (q, asked e.minus limit below above l) (around below above e.filled e.minus e.size)

-- an entry is in the range of its column, or not
entry_known : (k : Column) (e : Entry) → (r : Bool) × Decides r (InRange k e)
entry_known Empty e = (true, tt)
entry_known (Filled low high) e = (((e.filled && not e.minus) && leb low e.size) && leb e.size high, between_decides low high e.filled e.minus e.size)
entry_known (Signed below above) e = (e.filled && leb e.size (cond e.minus below above), around below above e.filled e.minus e.size)

module _ (k : Columns) (n : Numbers) where
  pub all_in_range : (a b c d e f : Bool) → Decides a (InRange k.n1 n.n1) → Decides b (InRange k.n2 n.n2) → Decides c (InRange k.n3 n.n3)
      → Decides d (InRange k.n4 n.n4) → Decides e (InRange k.n5 n.n5) → Decides f (InRange k.n6 n.n6)
      → Decides (all_six a b c d e f) (InColumns k n)
  all_in_range a b c d e f p q r s t u =
      decides_same {Q = InColumns k n} (all_six a b c d e f)
      (λ w. record { n1 = w.0.0.0.0.0; n2 = w.0.0.0.0.1; n3 = w.0.0.0.1; n4 = w.0.0.1; n5 = w.0.1; n6 = w.1 })
      (λ w. (((((w.n1, w.n2), w.n3), w.n4), w.n5), w.n6))
      (decides_six (InRange k.n1 n.n1) (InRange k.n2 n.n2) (InRange k.n3 n.n3) (InRange k.n4 n.n4) (InRange k.n5 n.n5) (InRange k.n6 n.n6) a b c d e f p q r s t u)

  -- the numbers are in range, or not
  ranged_known : (r : Bool) × Decides r (InColumns k n)
  ranged_known =
      let one = entry_known k.n1 n.n1 in
      let two = entry_known k.n2 n.n2 in
      let three = entry_known k.n3 n.n3 in
      let four = entry_known k.n4 n.n4 in
      let five = entry_known k.n5 n.n5 in
      let six = entry_known k.n6 n.n6 in (
        all_six one.0 two.0 three.0 four.0 five.0 six.0,
        all_in_range one.0 two.0 three.0 four.0 five.0 six.0 one.1 two.1 three.1 four.1 five.1 six.1,
      )

-- a row of which it is not so that a number is out of range is in range
pub ranged_unless : (kind : Kind) (n : Numbers) → ((Ranged kind n → ⊥) → ⊥) → Ranged kind n
ranged_unless kind n h = let known = ranged_known (columns kind) n in unrefuted known.0 known.1 h
