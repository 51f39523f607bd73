-- Each test decides one field of `Within`, by what is read of the sums; the products fit a word since the bounds and the sums are small.
use borrow.Author.Rules.{rules}
use mathlib.Core.Path.{sym, subst₂}
use Prim.Native.Nat.{ℕ, ◌*◌, ◌^◌, ◌≤◌}
use native.Mathlib.Nat.{le_refl, mul-le-mul}
use native.Mathlib.Omega.{arith}
use lib.Dec.{leb}
use Rattle.arithmetic.proofs.Deciding.{decided, refuted, decides_same, decides_at_most}
use Rattle.weighing.specs.steps.Bounds.{PressedWithin}
use Rattle.weighing.proofs.bounds.within.Statement.{statement}
use Rattle.weighing.proofs.bounds.within.Tie as tie

-- what is read of the sums is small
n_low : (c : tie.After-over_zero-n) → c.over_zero-n.result ≤ 2 ^ 20
n_low c = omega (arith, c.over_zero-n.ensures, c.requires.1.1.n)

m_low : (c : tie.After-from_zero-m) → c.from_zero-m.result ≤ 2 ^ 40
m_low c = omega (arith, c.from_zero-m.ensures, c.requires.1.1.m)

h_low : (c : tie.After-from_zero-h) → c.from_zero-h.result ≤ 2 ^ 24
h_low c = omega (arith, c.from_zero-h.ensures, c.requires.1.1.h)

full_low : (c : tie.After-from_zero-m) → c.over_zero-n.result * c.args.width ≤ 2 ^ 20 * 30000
full_low c = mul-le-mul (n_low c.before.before) c.requires.0

over-zero-requires : tie.Need-over_zero-n-requires
over-zero-requires c κs = search rules

returns : tie.Need-returns-then-n-eq0
returns c = λ w. omega (arith, w.n, c.over_zero-n.ensures, c.if-n-eq0.true)

from-zero-requires : tie.Need-from_zero-m-requires
from-zero-requires c κs = search rules

mul-full : tie.Need-overflow_mul-full
mul-full c = omega (arith, full_low c)

mul-if2 : tie.Need-overflow_mul-bounds
mul-if2 c = omega (arith, mul-le-mul c.requires.1.0.lean (full_low c.before))

mul-if2-2 : tie.Need-overflow_mul-m
mul-if2-2 c = search rules

returns-2 : tie.Need-returns-then-bounds-full
returns-2 c = λ w. omega (arith, w.lean, rw (c.over_zero-n.ensures, c.from_zero-m.ensures) at c.if-bounds-full.true)

pressed-within-requires : tie.Need-pressed_within-requires
pressed-within-requires c κs =
    let given = c.requires.1.0 in
    (given, (omega (arith, full_low c.before.before), n_low c.before.before.before.before, omega (arith, c.if-bounds-full.false, mul-le-mul given.lean (le_refl (c.over_zero-n.result * c.args.width)))))

returns-3 : tie.Need-returns-then-not-pressed_within
returns-3 c =
    let p = c.pressed_within in
    let a = c.args in
    λ w. refuted p.result c.if-not-pressed_within.true p.ensures
    (subst₂ (λ (x y : ℕ). PressedWithin a.bounds (x * a.width) x y) (sym c.over_zero-n.ensures) (sym c.from_zero-m.ensures) w.press)

from-zero-requires-2 : tie.Need-from_zero-h-requires
from-zero-requires-2 c κs = search rules

mul-if4 : tie.Need-overflow_mul-bounds-2
mul-if4 c = omega (arith, mul-le-mul c.requires.1.0.sl.1 (n_low c.before.before.before.before.before.before.before.before))

mul-if4-2 : tie.Need-overflow_mul-bounds-3
mul-if4-2 c = omega (arith, mul-le-mul c.requires.1.0.sl.0 (h_low c.before.before))

returns-4 : tie.Need-returns-then-bounds-n
returns-4 c =
    λ w. omega (arith, w.sl, rw (c.over_zero-n.ensures, c.from_zero-h.ensures) at c.if-bounds-n.true)

mul-if5 : tie.Need-overflow_mul-bounds-4
mul-if5 c = let given = c.requires.1 in omega (arith, mul-le-mul given.0.op.1 given.1.plus)

mul-if5-2 : tie.Need-overflow_mul-bounds-5
mul-if5-2 c = let given = c.requires.1 in omega (arith, mul-le-mul given.0.op.0 given.1.over_plus)

returns-5 : tie.Need-returns-then-bounds-carried
returns-5 c = search rules

mul-if6 : tie.Need-overflow_mul-bounds-6
mul-if6 c =
    let given = c.requires.1 in
    omega (arith, mul-le-mul given.0.om.1 given.1.minus)

mul-if6-2 : tie.Need-overflow_mul-bounds-7
mul-if6-2 c =
    let given = c.requires.1 in
    omega (arith, mul-le-mul given.0.om.0 given.1.over_minus)

returns-6 : tie.Need-returns-then-bounds-carried-2
returns-6 c = search rules

returns-7 : tie.Need-returns
returns-7 c =
    let p = c.pressed_within in
    let a = c.args in
    let n = c.over_zero-n.ensures in
    let m = c.from_zero-m.ensures in
    let h = c.from_zero-h.ensures in
    decides_same (leb a.bounds.tied a.carried.key)
    (λ f. record {
      n = omega (arith, n, c.if-n-eq0.false);
      lean = subst₂ (λ (x y : ℕ). 1000 * y ≤ a.bounds.lean * (x * a.width)) n m c.if-bounds-full.false;
      press = subst₂ (λ (x y : ℕ). PressedWithin a.bounds (x * a.width) x y) n m (decided p.result c.if-not-pressed_within.false p.ensures);
      sl = subst₂ (λ (x y : ℕ). a.bounds.sl.by * y ≤ a.bounds.sl.of * x) n h c.if-bounds-n.false;
      op = c.if-bounds-carried.false;
      om = c.if-bounds-carried-2.false;
      tied = f;
    })
    (λ w. w.tied) (decides_at_most a.bounds.tied a.carried.key)

pub within_spec : {M : Type 1} → statement M
within_spec = tie.close (tie.spec over-zero-requires returns from-zero-requires mul-full mul-if2 mul-if2-2 returns-2 pressed-within-requires returns-3 from-zero-requires-2 mul-if4 mul-if4-2 returns-4 mul-if5 mul-if5-2 returns-5 mul-if6 mul-if6-2 returns-6 returns-7)
