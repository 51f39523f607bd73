-- The ranges, and the size of what is held, are what the rules ask; what is held or not is told as it is.
use Rattle.std.proofs.Common.{◌≡◌, ◌≤◌, ℕ, sym, subst, Some}
use Rattle.arithmetic.proofs.Deciding.{decided, refuted}
use Rattle.kinds.specs.ranges.Range.{Ranged}
use Rattle.kinds.specs.declared.Kind.TheVariants.{E}
use Rattle.kinds.specs.declared.Numbers.{Numbers}
use Rattle.earth.specs.coefficients.Coefficients.{Coefficient}
use Rattle.earth.specs.coefficients.Lent.{fill_of}
use Rattle.earth.specs.steps.LowCoefficient.{LowCoefficient}
use Rattle.earth.specs.Earth.{EarthTold, Pushed, blank, has_coefficient, backfill_in}
use Rattle.earth.specs.EarthRow.{Pressed, out_of_range, in_range}
use Rattle.earth.specs.declared.Backfill.{Backfill}
use Rattle.earth.proofs.coefficients.Held.{fill_low}
use Rattle.earth.proofs.pressure.Goals as goal

-- what the columns give is told of the row
says : {fill : ℕ → ℕ → Coefficient} {row : Numbers} {backfill : Backfill} {t : EarthTold} → Ranged E row → backfill ≡ backfill_in row → Pushed fill backfill t → Pressed fill row t
says {fill} {t = t} ranged e h = in_range ranged (subst (λ (b : Backfill). Pushed fill b t) e h)

pub returns-then-not-is_ranged : goal.returns-then-not-is_ranged
returns-then-not-is_ranged c = out_of_range (refuted c.is_ranged.result c.if-not-is_ranged.true c.is_ranged.ensures)

pub returns-in_default : goal.returns-in_default
returns-in_default c =
    says (decided c.is_ranged.result c.if-not-is_ranged.false c.is_ranged.ensures) c.from-backfill.ensures (blank (sym c.in_default.ensures))

pub thrust_of-requires : goal.thrust_of-requires
thrust_of-requires c =
    let ranged : Ranged E c.args.row = decided c.is_ranged.result c.if-not-is_ranged.false c.is_ranged.ensures in
    let held : fill_of c.args.held c.from-backfill.result.soil c.from-backfill.result.slope ≡ Some c.from.result = cc in
    let low : c.from.result ≤ 40000 = subst LowCoefficient held (fill_low c.args.held _ _) in
    let height : c.from-backfill.result.height ≤ 15000 = rw c.from-backfill.ensures ranged.n3.to in
    let length : c.from-backfill.result.length ≤ 60000 = rw c.from-backfill.ensures ranged.n4.to in
    (low, height, length)

pub returns : goal.returns
returns c =
    let held : fill_of c.args.held c.from-backfill.result.soil c.from-backfill.result.slope ≡ Some c.from.result = cc in
    says (decided c.is_ranged.result c.if-not-is_ranged.false c.is_ranged.ensures) c.from-backfill.ensures (has_coefficient held c.thrust_of.ensures c.arm_of.ensures)
