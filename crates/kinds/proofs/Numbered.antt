-- A refusal is one by its number, since it can be taken back to it.
use Rattle.std.proofs.Common.{◌≡◌, refl, sym, ap, ◌∙◌, ℕ, cond, nat_eq}
use Rattle.kinds.specs.declared.refusals.JobRefusal.{JobRefusal}
use Rattle.kinds.specs.declared.refusals.JobRefusal.TheVariants.{OutOfRange, LargeCatchment, TooIntense, OverObstructed, NoFill, TooManyOptional, UpperBelowLower, NoTrain, NotAbove, TypeE}
use Rattle.kinds.specs.refusals.Refusals.{refusal_number}

back : ℕ → JobRefusal
back n =
    cond (nat_eq n 11) OutOfRange
    (cond (nat_eq n 12) LargeCatchment
    (cond (nat_eq n 13) TooIntense
    (cond (nat_eq n 14) OverObstructed
    (cond (nat_eq n 15) NoFill
    (cond (nat_eq n 16) TooManyOptional (cond (nat_eq n 17) UpperBelowLower (cond (nat_eq n 18) NoTrain (cond (nat_eq n 19) NotAbove TypeE))))))))

back_number : (r : JobRefusal) → back (refusal_number r) ≡ r
unfolding back
back_number OutOfRange = refl
back_number LargeCatchment = refl
back_number TooIntense = refl
back_number OverObstructed = refl
back_number NoFill = refl
back_number TooManyOptional = refl
back_number UpperBelowLower = refl
back_number NoTrain = refl
back_number NotAbove = refl
back_number TypeE = refl

pub refusal_one : (r s : JobRefusal) → refusal_number r ≡ refusal_number s → r ≡ s
refusal_one r s e = sym (back_number r) ∙ ap back e ∙ back_number s
