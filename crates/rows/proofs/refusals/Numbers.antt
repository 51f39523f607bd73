-- A book's refusals have the numbers 1 to 6, each its own.
use Prim.Native.Nat.{ℕ, ◌≤◌}
use mathlib.Core.Path.{◌≡◌, refl, sym, ap, ◌∙◌}
use mathlib.Core.List.{[], ◌∷◌}
use lib.Dec.{lit≤}
use lib.ListN.{get_or}
use Rattle.rows.specs.refusals.Numbers.{refusal_number}
use Rattle.rows.specs.declared.refusals.Refusal.{Refusal}
use Rattle.rows.specs.declared.refusals.Refusal.TheVariants.{TooLong, NotCsv, NoForm, Misplaced, TooManyJobs, UsedKey}

pub number_low : (why : Refusal) → refusal_number why ≤ 6
number_low TooLong = lit≤ tt
number_low NotCsv = lit≤ tt
number_low NoForm = lit≤ tt
number_low Misplaced = lit≤ tt
number_low TooManyJobs = lit≤ tt
number_low UsedKey = lit≤ tt

-- the refusal of a number
refusal_of : ℕ → Refusal
refusal_of n = get_or (TooLong ∷ TooLong ∷ NotCsv ∷ NoForm ∷ Misplaced ∷ TooManyJobs ∷ []) n UsedKey

own_number : (why : Refusal) → refusal_of (refusal_number why) ≡ why
unfolding refusal_of
own_number TooLong = refl
own_number NotCsv = refl
own_number NoForm = refl
own_number Misplaced = refl
own_number TooManyJobs = refl
own_number UsedKey = refl

pub number_one : (a b : Refusal) → refusal_number a ≡ refusal_number b → a ≡ b
number_one a b e = sym (own_number a) ∙ ap refusal_of e ∙ own_number b
