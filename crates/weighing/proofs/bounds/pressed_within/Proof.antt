-- The first test says which rule holds, and the last comparison of each decides its bound.
use borrow.Author.Rules.{rules}
use native.Mathlib.Omega.{arith}
use native.Mathlib.Nat.{mul-le-mul}
use Prim.Native.Nat.{◌+◌, ◌*◌, ◌-◌, ◌^◌, ◌≤◌}
use lib.Dec.{leb}
use Rattle.arithmetic.proofs.Deciding.{decides_same, decides_at_most}
use Rattle.weighing.proofs.bounds.pressed_within.Statement.{statement}
use Rattle.weighing.proofs.bounds.pressed_within.Tie as tie

mul-if1 : tie.Need-overflow_mul-m
mul-if1 c = search rules

mul-result : tie.Need-overflow_mul-result
mul-result c = search rules

add-result : tie.Need-overflow_add-result
add-result c = search rules

returns : tie.Need-returns-then-m-full
returns c =
    let a = c.args in
    decides_same (leb (a.full + 3 * a.m) a.bounds.whole) (λ f. record { whole = λ _. f; part = λ h. absurd (omega (arith, h, c.if-m-full.true)) }) (λ w. w.whole c.if-m-full.true)
    (decides_at_most (a.full + 3 * a.m) a.bounds.whole)

square_low : (c : tie.Else-m-full) → c.args.n * c.args.n ≤ 2 ^ 20 * 2 ^ 20
square_low c = let n = c.requires.1.1 in mul-le-mul n n

mul-result-2 : tie.Need-overflow_mul-result-2
mul-result-2 c = omega (arith, square_low c)

mul-result-3 : tie.Need-overflow_mul-result-3
mul-result-3 c = omega (arith, square_low c)

sub-result : tie.Need-overflow_sub-result
sub-result c = search rules

mul-result-4 : tie.Need-overflow_mul-result-4
mul-result-4 c =
    let rest : c.args.full - c.args.m ≤ 2 ^ 35 = omega (arith, c.requires.1.0) in
    omega (arith, mul-le-mul c.requires.0.part rest)

returns-2 : tie.Need-returns
returns-2 c =
    let a = c.args in
    decides_same (leb (4000 * (a.n * a.n)) (a.bounds.part * (a.full - a.m)))
    (λ f. record { whole = λ h. absurd (omega (arith, h, c.if-m-full.false)); part = λ _. f }) (λ w. w.part (omega (arith, c.if-m-full.false)))
    (decides_at_most (4000 * (a.n * a.n)) (a.bounds.part * (a.full - a.m)))

pub pressed_within_spec : {M : Type 1} → statement M
pressed_within_spec = tie.close (tie.spec mul-if1 mul-result add-result returns mul-result-2 mul-result-3 sub-result mul-result-4 returns-2)
