-- PR by its three cases. The products fit: N is below 2²⁰, the width at most 30,000 and the length at most 60,000.
use borrow.Author.Rules.{rules}
use native.Mathlib.Omega.{arith}
use native.Mathlib.Nat.{mul-le-mul, mul-pos}
use lib.Dec.{lit<}
use Prim.Native.Nat.{◌*◌, ◌-◌, ◌^◌, ◌≤◌, ◌<◌}
use Rattle.checks.proofs.ranks.Pressing.{press_off_told, press_full_told, press_part_told}
use Rattle.checks.proofs.ranks.press.Statement.{statement}
use Rattle.checks.proofs.ranks.press.Tie as tie

full_low : (c : tie.Start) → c.args.n * c.args.width ≤ 2 ^ 20 * 30000
full_low c = mul-le-mul c.requires.1.0 c.requires.0.1

area : (c : tie.Start) → 0 < c.args.width * c.args.width * c.args.length
area c = mul-pos (mul-pos c.requires.0.0 c.requires.0.0) c.requires.0.2

part : (c : tie.Start) → c.args.m < c.args.n * c.args.width → 0 < 3 * c.args.length * (c.args.n * c.args.width - c.args.m)
part c h = mul-pos (mul-pos (lit< tt) c.requires.0.2) (omega arith)

mul-full : tie.Need-overflow_mul-full
mul-full c = omega (arith, full_low c)

returns : tie.Need-returns-then-full-m
returns c = press_off_told _ _ _ _ c.if-full-m.true

mul-if2 : tie.Need-overflow_mul-m
mul-if2 c = omega arith

mul-up : tie.Need-overflow_mul-m-then-m-full
mul-up c = omega arith

add-up : tie.Need-overflow_add-full
add-up c = omega (arith, full_low c.before.before)

mul-up-2 : tie.Need-overflow_mul-full-then-m-full
mul-up-2 c = omega (arith, full_low c.before.before)

mul-up-3 : tie.Need-overflow_mul-width
mul-up-3 c = omega (arith, mul-le-mul c.requires.0.1 c.requires.0.1)

mul-up-4 : tie.Need-overflow_mul-width-then-m-full
mul-up-4 c = omega (arith, mul-le-mul (mul-le-mul c.requires.0.1 c.requires.0.1) c.requires.0.3)

up-requires : tie.Need-up-requires
up-requires c κs = area c.before.before

falling-requires : tie.Need-falling-requires
falling-requires c κs = search rules

returns-2 : tie.Need-returns-then-m-full
returns-2 c =
    rw (c.falling.ensures.0, c.falling.ensures.1) (press_full_told _ _ _ _ c.requires.0.1 c.requires.1.0 (area c.before.before.before.before) c.if-full-m.false c.if-m-full.true c.up.ensures)

mul-up-5 : tie.Need-overflow_mul-up
mul-up-5 c = omega arith

mul-up-6 : tie.Need-overflow_mul-n
mul-up-6 c = omega (arith, mul-le-mul c.requires.1.0 c.requires.1.0)

mul-up-7 : tie.Need-overflow_mul-n-2
mul-up-7 c = omega (arith, mul-le-mul c.requires.1.0 c.requires.1.0)

mul-up-8 : tie.Need-overflow_mul-length
mul-up-8 c = omega arith

sub-up : tie.Need-overflow_sub-full
sub-up c = search rules

mul-up-9 : tie.Need-overflow_mul-length-2
mul-up-9 c =
    let three : 3 * c.args.length ≤ 180000 = omega (arith, c.requires.0.3) in
    let rest : c.args.n * c.args.width - c.args.m ≤ 2 ^ 20 * 30000 = omega (arith, full_low c.before.before) in
    omega (arith, mul-le-mul three rest)

up-requires-2 : tie.Need-up-requires-2
up-requires-2 c κs = part c.before.before c.if-full-m.false

falling-requires-2 : tie.Need-falling-requires-2
falling-requires-2 c κs = search rules

returns-3 : tie.Need-returns
returns-3 c =
    let past = c.if-full-m.false in
    rw (c.falling-2.ensures.0, c.falling-2.ensures.1) (press_part_told _ _ _ _ c.requires.1.0 (part c.before.before.before.before past) past c.if-m-full.false c.up-2.ensures)

pub press_spec : {M : Type 1} → statement M
press_spec = tie.close (tie.spec mul-full returns mul-if2 mul-up add-up mul-up-2 mul-up-3 mul-up-4 up-requires falling-requires returns-2 mul-up-5 mul-up-6 mul-up-7 mul-up-8 sub-up mul-up-9 up-requires-2 falling-requires-2 returns-3)
