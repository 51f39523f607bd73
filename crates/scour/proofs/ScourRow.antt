-- An S row is told one thing, and so is given one answer.
use mathlib.Core.Path.{◌≡◌, refl}
use Rattle.kinds.specs.declared.Numbers.{Numbers}
use Rattle.scour.specs.Scour.{ScourTold}
use Rattle.scour.specs.ScourRow.{scour_told, ScourSays, out_of_range, in_range}
use Rattle.std.proofs.Common.{Result}
use Rattle.arithmetic.specs.declared.rounding.Rounded.{Rounded}
use Rattle.scour.specs.declared.ScourRefusal.{ScourRefusal}
use Rattle.scour.proofs.Scours.{scour_rule_one, scour_told_one}

pub scour_says_one : {row : Numbers} {t u : ScourTold} → ScourSays row t → ScourSays row u → t ≡ u
scour_says_one (out_of_range h) (out_of_range k) = refl
scour_says_one (out_of_range h) (in_range r s) = absurd (h r)
scour_says_one (in_range r s) (out_of_range h) = absurd (h r)
scour_says_one (in_range p s) (in_range q t) = scour_rule_one s t

-- no second answer meets the promise of `scour`
pub scour_one : (row : Numbers) (r s : Result Rounded ScourRefusal) → ScourSays row (scour_told r) → ScourSays row (scour_told s) → r ≡ s
scour_one row r s u v = scour_told_one r s (scour_says_one u v)
