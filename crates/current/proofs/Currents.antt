-- A W row is told one thing. What is told determines the answer, since it can be taken back to it.
use mathlib.Core.Path.{◌≡◌, refl, sym, ap, ◌∙◌}
use mathlib.Core.Bool.{cond}
use native.Mathlib.Omega.{arith}
use lib.Dec.{eqb}
use Rattle.arithmetic.proofs.rounding.Laws.{least_one}
use Rattle.kinds.specs.declared.Numbers.{Numbers}
use Rattle.current.specs.Current.{CurrentTold, refused, push, CurrentRule, upper_below_lower, pushes}
use Rattle.current.specs.CurrentRow.{CurrentSays, out_of_range, in_range, current_told}
use Rattle.current.specs.declared.Shaft.{Shaft}
use Rattle.std.proofs.Common.{Result, Ok, Err}
use Rattle.kinds.specs.declared.pushes.Push.{Push}
use Rattle.current.specs.declared.CurrentRefusal.{CurrentRefusal}
use Rattle.current.specs.declared.CurrentRefusal.TheVariants.{OutOfRange, UpperBelowLower}

pub rule_one : {row : Shaft} {t u : CurrentTold} → CurrentRule row t → CurrentRule row u → t ≡ u
rule_one (upper_below_lower g) (upper_below_lower h) = refl
rule_one (upper_below_lower g) (pushes h f y) = absurd (omega arith)
rule_one (pushes g f y) (upper_below_lower h) = absurd (omega arith)
rule_one (pushes g f y) (pushes h e z) =
    let force = least_one f e in
    let arm = least_one y z in
    cc

says_one : {row : Numbers} {t u : CurrentTold} → CurrentSays row t → CurrentSays row u → t ≡ u
says_one (out_of_range h) (out_of_range k) = refl
says_one (out_of_range h) (in_range r s) = absurd (h r)
says_one (in_range r s) (out_of_range h) = absurd (h r)
says_one (in_range p s) (in_range q t) = rule_one s t

back : CurrentTold → Result Push CurrentRefusal
back (refused n) = Err (cond (eqb n 11) OutOfRange UpperBelowLower)
back (push force arm) = Ok (record { force = force; arm = arm })

back_told : (r : Result Push CurrentRefusal) → back (current_told r) ≡ r
unfolding back
back_told (Err OutOfRange) = refl
back_told (Err UpperBelowLower) = refl
back_told (Ok found) = refl

-- no second answer meets the promise of `pressure`
pub current_one : (row : Numbers) (r s : Result Push CurrentRefusal) → CurrentSays row (current_told r) → CurrentSays row (current_told s) → r ≡ s
current_one row r s u v = sym (back_told r) ∙ ap back (says_one u v) ∙ back_told s
