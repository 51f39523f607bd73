-- Each bound is the definition's; the products of PR fit a word since the number below its figure is cut off.
use borrow.Author.Rules.{rules}
use mathlib.Core.Path.{◌∙◌, ap, ap₂}
use Prim.Native.Nat.{ℕ, ◌*◌, ◌/◌, ◌≤◌}
use native.Mathlib.Nat.{le_refl, mul-le-mul}
use native.Mathlib.Omega.{arith}
use Rattle.checks.specs.declared.Base.{Base}
use Rattle.checks.specs.declared.Check.TheVariants.{OP, OM, SL, RK}
use Rattle.checks.specs.Sized.{Sized}
use Rattle.weighing.specs.steps.Weighs.{ranked_of, Low}
use Rattle.weighing.specs.steps.Bounds.{later, bounds_of}
use Rattle.weighing.proofs.bounds.Bounding.{number_most}
use Rattle.weighing.proofs.bounds.bounds_of.Statement.{statement}
use Rattle.weighing.proofs.bounds.bounds_of.Tie as tie

-- the base's area and its width once more
square_low : {base : Base} → Sized base → base.width * base.width ≤ 30000 * 30000
square_low s = mul-le-mul s.width s.width

cube_low : {base : Base} → Sized base → base.width * base.width * base.length ≤ 30000 * 30000 * 60000
cube_low s = mul-le-mul (square_low s) s.length

number_low : (c : tie.After-number_below-pressed) → c.number_below-pressed.result ≤ 262144
number_low c = omega (arith, c.number_below-pressed.ensures, number_most 262144 c.args.worst.pr.rank)

number-below-requires : tie.Need-number_below-pressed-requires
number-below-requires c κs = search rules

tied-from-requires : tie.Need-tied_from-requires
unfolding Low ranked_of
tied-from-requires c κs = c.requires.1 OP

tied-from-requires-2 : tie.Need-tied_from-requires-2
unfolding Low ranked_of
tied-from-requires-2 c κs = c.requires.1 OM

later-requires : tie.Need-later-edges-requires
later-requires c κs = search rules

tied-from-requires-3 : tie.Need-tied_from-requires-3
unfolding Low ranked_of
tied-from-requires-3 c κs = c.requires.1 SL

tied-from-requires-4 : tie.Need-tied_from-requires-4
unfolding Low ranked_of
tied-from-requires-4 c κs = c.requires.1 RK

later-requires-2 : tie.Need-later-rest-requires
later-requires-2 c κs = search rules

bound-of-requires : tie.Need-bound_of-requires
bound-of-requires c κs = search rules

bound-of-requires-2 : tie.Need-bound_of-requires-2
bound-of-requires-2 c κs = search rules

bound-of-requires-3 : tie.Need-bound_of-requires-3
bound-of-requires-3 c κs = search rules

mul-t9 : tie.Need-overflow_mul-result
mul-t9 c = omega (arith, square_low c.requires.0)

mul-t10 : tie.Need-overflow_mul-result-2
mul-t10 c = omega (arith, cube_low c.requires.0)

mul-t14 : tie.Need-overflow_mul-result-3
mul-t14 c = omega (arith, mul-le-mul (number_low c.before.before.before.before.before.before.before.before.before.before.before.before.before.before) (cube_low c.requires.0))

mul-t16 : tie.Need-overflow_mul-result-4
mul-t16 c = omega (arith, c.requires.0.length)

mul-t17 : tie.Need-overflow_mul-result-5
mul-t17 c =
    omega (arith, mul-le-mul (number_low c.before.before.before.before.before.before.before.before.before.before.before.before.before.before.before) (mul-le-mul (le_refl 3) c.requires.0.length))

lean-of-requires : tie.Need-lean_of-requires
lean-of-requires c κs = search rules

later-requires-3 : tie.Need-later-requires
later-requires-3 c κs = search rules

returns : tie.Need-returns
unfolding bounds_of
returns c =
    let base = c.args.base in
    let first = c.later-edges.ensures ∙ ap₂ later c.tied_from.ensures c.tied_from-2.ensures in
    let second = c.later-rest.ensures ∙ ap₂ later c.tied_from-3.ensures c.tied_from-4.ensures in
    λ i. record {
      op = c.bound_of.ensures i;
      om = c.bound_of-2.ensures i;
      sl = c.bound_of-3.ensures i;
      whole = ap (λ (n : ℕ). n * (base.width * base.width * base.length) / 1000000) c.number_below-pressed.ensures i;
      part = ap (λ (n : ℕ). n * (3 * base.length) / 1000) c.number_below-pressed.ensures i;
      lean = c.lean_of.ensures i;
      tied = (c.later.ensures ∙ ap₂ later first second) i;
    }

pub bounds_of_spec : {M : Type 1} → statement M
bounds_of_spec = tie.close (tie.spec number-below-requires tied-from-requires tied-from-requires-2 later-requires tied-from-requires-3 tied-from-requires-4 later-requires-2 bound-of-requires bound-of-requires-2 bound-of-requires-3 mul-t9 mul-t10 mul-t14 mul-t16 mul-t17 lean-of-requires later-requires-3 returns)
