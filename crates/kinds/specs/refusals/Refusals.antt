-- Document 01, Refusals of a job, 11 to 16, and 02, P1: 17, P3: 18, P4: 15, and P5: 19 and 20: the number of each, and which of two is told.
use Rattle.std.specs.Prelude.{ℕ, ltb, cond}
use Rattle.kinds.specs.declared.refusals.JobRefusal.{JobRefusal}
use Rattle.kinds.specs.declared.refusals.JobRefusal.TheVariants.{OutOfRange, LargeCatchment, TooIntense, OverObstructed, NoFill, TooManyOptional, UpperBelowLower, NoTrain, NotAbove, TypeE}

abbrev pub refusal_number : JobRefusal → ℕ
refusal_number OutOfRange = 11
refusal_number LargeCatchment = 12
refusal_number TooIntense = 13
refusal_number OverObstructed = 14
refusal_number NoFill = 15
refusal_number TooManyOptional = 16
refusal_number UpperBelowLower = 17
refusal_number NoTrain = 18
refusal_number NotAbove = 19
refusal_number TypeE = 20

-- "Order as numbered": the lower of two
abbrev pub lower_refusal : JobRefusal → JobRefusal → JobRefusal
lower_refusal r s = cond (ltb (refusal_number s) (refusal_number r)) s r
