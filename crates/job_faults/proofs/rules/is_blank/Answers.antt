-- A row in range is told 15 exactly where nothing is held for it.
use Rattle.std.proofs.Common.{refl, sym, ℕ, Bool, Result, Ok, Err, subst}
use Rattle.std.specs.Result.{is_err}
use Rattle.arithmetic.specs.decides.Decides.{Decides}
use Rattle.arithmetic.proofs.Cases.{impossible}
use Rattle.kinds.specs.declared.Numbers.{Numbers}
use Rattle.kinds.specs.declared.pushes.Push.{Push}
use Rattle.kinds.specs.declared.Kind.TheVariants.{E}
use Rattle.kinds.specs.ranges.Range.{Ranged}
use Rattle.earth.specs.declared.EarthRefusal.{EarthRefusal}
use Rattle.earth.specs.declared.EarthRefusal.TheVariants.{OutOfRange, NoCoefficient}
use Rattle.earth.specs.coefficients.Coefficients.{Coefficient}
use Rattle.earth.specs.coefficients.Lent.{fill_of}
use Rattle.earth.specs.Earth.{refused, backfill_in, Pushed}
use Rattle.earth.specs.EarthRow.{Pressed, earth_told, out_of_range, in_range}
use Rattle.job_faults.proofs.rules.Telling.{blank_told, blank_else}
use Rattle.job_faults.proofs.rules.is_blank.Goals as goal

blank : {fill : ℕ → ℕ → Coefficient} {row : Numbers} (a : Result Push EarthRefusal) → Pressed fill row (earth_told a) → Ranged E row → Decides (is_err a) (Pushed fill (backfill_in row) (refused 15))
blank (Err OutOfRange) (out_of_range h) r = absurd (h r)
blank (Err OutOfRange) (in_range q s) r = elim s [ ]
blank (Err NoCoefficient) p r = blank_told p refl
blank (Ok push) p r = blank_else p (λ e. impossible cc) r

pub returns : goal.returns
returns c = subst (λ (b : Bool). Decides b (Pushed (fill_of c.args.held) (backfill_in c.args.row) (refused 15))) (sym c.is_err.ensures.value) (blank c.pressure.result c.pressure.ensures c.requires)
