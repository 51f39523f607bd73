-- A surcharge is one load, and gives each sum what its two parts would give as loads of their own, each with its own H and its own 2Hy at either edge.
use mathlib.Core.Path.{◌≡◌, sym, ◌∙◌, ap, ap₂}
use Prim.Native.Nat.{ℕ, ◌+◌, ◌*◌}
use native.Mathlib.Omega.{arith}
use lib.IntN.{ℤ, pos, neg_ℤ, ◌+ℤ◌, ◌*ℤ◌}
use Rattle.arithmetic.specs.signed.Whole.{signed, amount, worth, above, below}
use Rattle.arithmetic.proofs.signed.Laws.{above_neg, below_neg, above_mul, below_mul}
use Rattle.surcharge.specs.declared.Parts.{Parts}
use Rattle.sets.specs.declared.Load.{Load}
use Rattle.sums.specs.Totals.{Edge, plus, minus, arm, v_moment, h_moment, moment, resists, overturns}
use Rattle.loads.specs.forces.Exerts.{PushLoad, PartsLoad}

-- what a push gives: nothing to N, H, twice its twist to M; and the same over the edge at +x, and against what turns over the edge at -x
record Turns (H twist : ℕ) (load : Load) : Type 0 where
  down : worth load.v ≡ pos 0
  ahead : worth load.h ≡ pos H
  round : moment load ≡ pos (2 * twist)
  holds_plus : (width : ℕ) → resists plus width load ≡ 0
  tips_plus : (width : ℕ) → overturns plus width load ≡ 2 * twist
  holds_minus : (width : ℕ) → resists minus width load ≡ 2 * twist
  tips_minus : (width : ℕ) → overturns minus width load ≡ 0

module _ {H twist : ℕ} {load : Load} (f : PushLoad H twist load) where
  none : worth load.v ≡ pos 0
  unfolding worth signed amount
  none = rw f.v

  middle : worth load.x ≡ pos 0
  unfolding worth signed amount
  middle = rw f.x

  turned : worth load.twist ≡ pos twist
  unfolding worth signed amount
  turned = rw f.turns

  none_above : (z : ℤ) → above (worth load.v *ℤ z) ≡ 0
  unfolding above below
  none_above z = omega (arith, ap (λ (y : ℤ). above (y *ℤ z)) none, above_mul (pos 0) z)

  none_below : (z : ℤ) → below (worth load.v *ℤ z) ≡ 0
  unfolding above below
  none_below z = omega (arith, ap (λ (y : ℤ). below (y *ℤ z)) none, below_mul (pos 0) z)

  twice : pos 2 *ℤ worth load.twist ≡ pos (2 * twist)
  twice = ap (λ (z : ℤ). pos 2 *ℤ z) turned

  push_turns : Turns H twist load
  unfolding worth signed amount moment v_moment h_moment resists overturns above below
  push_turns =
      record {
        down = none;
        ahead = rw f.h;
        round = ap₂ (λ (a b : ℤ). pos 2 *ℤ a +ℤ b) (ap₂ ◌*ℤ◌ none middle) twice ∙ ap pos (omega arith);
        holds_plus = λ width. omega (arith, none_above (arm plus width (worth load.x)), ap (λ (z : ℤ). above (neg_ℤ z)) twice, above_neg (pos (2 * twist)));
        tips_plus = λ width. omega (arith, none_below (arm plus width (worth load.x)), ap (λ (z : ℤ). below (neg_ℤ z)) twice, below_neg (pos (2 * twist)));
        holds_minus = λ width. omega (arith, none_above (arm minus width (worth load.x)), ap above twice);
        tips_minus = λ width. omega (arith, none_below (arm minus width (worth load.x)), ap below twice);
      }

-- what one load gives where two do
pub record AsTwo (load first second : Load) : Type 0 where
  pub v : worth load.v ≡ worth first.v +ℤ worth second.v
  pub h : worth load.h ≡ worth first.h +ℤ worth second.h
  pub m : moment load ≡ moment first +ℤ moment second
  pub resisting : (edge : Edge) (width : ℕ) → resists edge width load ≡ resists edge width first + resists edge width second
  pub overturning : (edge : Edge) (width : ℕ) → overturns edge width load ≡ overturns edge width first + overturns edge width second

added : {x y z : ℤ} {a b : ℕ} → x ≡ pos (a + b) → y ≡ pos a → z ≡ pos b → x ≡ y +ℤ z
added e f g = e ∙ sym (ap₂ ◌+ℤ◌ f g)

pub parts_as_two : (parts : Parts) {load first second : Load} → PartsLoad parts load → PushLoad parts.first.force (parts.first.force * parts.first.arm) first
    → PushLoad parts.second.force (parts.second.force * parts.second.arm) second → AsTwo load first second
parts_as_two parts {load} {first} {second} p q r =
    record { v = added t.down a.down b.down; h = added t.ahead a.ahead b.ahead; m = added (t.round ∙ ap pos (omega arith)) a.round b.round; resisting = resisting; overturning = overturning }
  where
    t : Turns (parts.first.force + parts.second.force) (parts.first.force * parts.first.arm + parts.second.force * parts.second.arm) load
    t = push_turns p

    a : Turns parts.first.force (parts.first.force * parts.first.arm) first
    a = push_turns q

    b : Turns parts.second.force (parts.second.force * parts.second.arm) second
    b = push_turns r

    resisting : (edge : Edge) (width : ℕ) → resists edge width load ≡ resists edge width first + resists edge width second
    resisting plus width = omega (arith, t.holds_plus width, a.holds_plus width, b.holds_plus width)
    resisting minus width = omega (arith, t.holds_minus width, a.holds_minus width, b.holds_minus width)

    overturning : (edge : Edge) (width : ℕ) → overturns edge width load ≡ overturns edge width first + overturns edge width second
    overturning plus width = omega (arith, t.tips_plus width, a.tips_plus width, b.tips_plus width)
    overturning minus width = omega (arith, t.tips_minus width, a.tips_minus width, b.tips_minus width)
