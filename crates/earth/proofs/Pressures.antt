-- An E row is told one thing, whatever the table of fills. What is told determines the answer, since it can be taken back to it.
use mathlib.Core.Path.{◌≡◌, refl, sym, ap, subst, ◌∙◌}
use mathlib.Core.Bool.{cond}
use Prim.Native.Nat.{ℕ}
use lib.Dec.{eqb}
use Rattle.arithmetic.proofs.Cases.{impossible}
use Rattle.arithmetic.proofs.rounding.Laws.{least_one}
use Rattle.kinds.specs.declared.Numbers.{Numbers}
use Rattle.earth.specs.Earth.{EarthTold, refused, push, Pushed, blank, has_coefficient}
use Rattle.earth.specs.EarthRow.{Pressed, out_of_range, in_range, earth_told}
use Rattle.earth.specs.coefficients.Coefficients.{Coefficient}
use Rattle.earth.specs.thrust.Thrust.{Thrust}
use Rattle.earth.specs.declared.Backfill.{Backfill}
use Rattle.kinds.specs.declared.pushes.Push.{Push}
use Rattle.earth.specs.declared.EarthRefusal.{EarthRefusal}
use Rattle.earth.specs.declared.EarthRefusal.TheVariants.{OutOfRange, NoCoefficient}
use Rattle.std.proofs.Common.{Result, Ok, Err}

pub pushed_one : {fill : ℕ → ℕ → Coefficient} {row : Backfill} {t u : EarthTold} → Pushed fill row t → Pushed fill row u → t ≡ u
pushed_one (blank e) (blank f) = refl
pushed_one (blank e) (has_coefficient f i z) = impossible cc
pushed_one (has_coefficient e h y) (blank f) = impossible cc
pushed_one {row = row} (has_coefficient {K} e h y) (has_coefficient {K = L} {H = H} f i z) =
    let same : L ≡ K = cc in
    let thrust = least_one h (subst (λ (k : ℕ). Thrust k row.height row.length H) same i) in
    let arm = least_one y z in
    cc

pressed_one : {fill : ℕ → ℕ → Coefficient} {row : Numbers} {t u : EarthTold} → Pressed fill row t → Pressed fill row u → t ≡ u
pressed_one (out_of_range h) (out_of_range k) = refl
pressed_one (out_of_range h) (in_range r s) = absurd (h r)
pressed_one (in_range r s) (out_of_range h) = absurd (h r)
pressed_one (in_range p s) (in_range q t) = pushed_one s t

back : EarthTold → Result Push EarthRefusal
back (refused n) = Err (cond (eqb n 11) OutOfRange NoCoefficient)
back (push thrust arm) = Ok (record { force = thrust; arm = arm })

back_told : (r : Result Push EarthRefusal) → back (earth_told r) ≡ r
unfolding back
back_told (Err OutOfRange) = refl
back_told (Err NoCoefficient) = refl
back_told (Ok found) = refl

-- no second answer meets the promise of `pressure`
pub pressure_one : (fill : ℕ → ℕ → Coefficient) (row : Numbers) (r s : Result Push EarthRefusal) → Pressed fill row (earth_told r) → Pressed fill row (earth_told s) → r ≡ s
pressure_one fill row r s u v = sym (back_told r) ∙ ap back (pressed_one u v) ∙ back_told s
