-- The train of a row: which kinds have one, and how far its position goes.
use mathlib.Core.Path.{◌≡◌, refl}
use Prim.Native.Nat.{ℕ, suc, ◌≤◌}
use native.Mathlib.Omega.{arith}
use lib.Dec.{lit≤}
use Rattle.sets.specs.declared.Class.TheVariants.{Free}
use Rattle.kinds.specs.Table.{train}
use Rattle.kinds.specs.classes.Classes.{class_of}
use Rattle.kinds.specs.ranges.Range.{Ranged}
use Rattle.kinds.specs.declared.Kind.{Kind}
use Rattle.kinds.specs.declared.Kind.TheVariants.{B, S, C, E, W, G, DL, EP, LL, LF, CF, WC, BU, TM, EX, WL, SF}
use Rattle.kinds.specs.declared.Numbers.{Numbers}

-- a row that comes with a train is free
pub train_free : (k : Kind) (n : Numbers) {i : ℕ} → train k n ≡ suc i → class_of k ≡ Free
unfolding class_of
train_free B n e = absurd (omega arith)
train_free S n e = absurd (omega arith)
train_free C n e = absurd (omega arith)
train_free E n e = absurd (omega arith)
train_free W n e = absurd (omega arith)
train_free G n e = absurd (omega arith)
train_free DL n e = absurd (omega arith)
train_free EP n e = absurd (omega arith)
train_free LL n e = absurd (omega arith)
train_free LF n e = refl
train_free CF n e = refl
train_free WC n e = absurd (omega arith)
train_free BU n e = absurd (omega arith)
train_free TM n e = absurd (omega arith)
train_free EX n e = absurd (omega arith)
train_free WL n e = absurd (omega arith)
train_free SF n e = absurd (omega arith)

-- in range its position is one of 16
pub train_low : (k : Kind) (n : Numbers) → Ranged k n → train k n ≤ 16
train_low B n r = lit≤ tt
train_low S n r = lit≤ tt
train_low C n r = lit≤ tt
train_low E n r = lit≤ tt
train_low W n r = lit≤ tt
train_low G n r = lit≤ tt
train_low DL n r = lit≤ tt
train_low EP n r = lit≤ tt
train_low LL n r = lit≤ tt
train_low LF n r = omega (arith, r.n6.to)
train_low CF n r = omega (arith, r.n6.to)
train_low WC n r = lit≤ tt
train_low BU n r = lit≤ tt
train_low TM n r = lit≤ tt
train_low EX n r = lit≤ tt
train_low WL n r = lit≤ tt
train_low SF n r = lit≤ tt
