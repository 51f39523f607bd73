-- A byte that may not stand there is the first stray one; at the text's end the spot says what is told.
use Rattle.std.proofs.Common.{◌≡◌, ◌⊎◌, inl, inr, true, ap, arith, refl}
use Rattle.csv_text.specs.declared.strays.Spot.{Spot}
use Rattle.csv_text.specs.declared.strays.Spot.TheVariants as spots
use Rattle.csv_text.proofs.strays.Spots.{may_end}
use Rattle.csv_text.proofs.strays.Walking.{walked_none, walked_more, walked_stray, walked_sound, walked_unclosed, walked_some, walked_return}
use Rattle.csv_text.proofs.strays.text_fault.Goals as goal

pub loop-i-init : goal.loop-i-init
loop-i-init c = walked_none _

pub loop-i-preserved : goal.loop-i-preserved
loop-i-preserved c = walked_more c.loop-i.invariant c.loop-i-test.true c.field_of-field.ensures c.in-Some.ensures

pub returns-in_default : goal.returns-in_default
returns-in_default c = walked_stray c.loop-i.invariant c.loop-i-test.true refl c.in_default.ensures

ends_there : {spot : Spot} → (spot ≡ spots.Start) ⊎ ((spot ≡ spots.Plain) ⊎ (spot ≡ spots.Closed)) → may_end spot ≡ true
ends_there (inl e) = ap may_end e
ends_there (inr (inl e)) = ap may_end e
ends_there (inr (inr e)) = ap may_end e

pub returns-in-Start : goal.returns-in-Start
returns-in-Start c = walked_sound c.loop-i.invariant c.loop-i-test.false (ends_there c.in-Start.is)

pub returns-in-Inside : goal.returns-in-Inside
returns-in-Inside c = walked_unclosed c.loop-i.invariant c.loop-i-test.false c.in-Inside.is refl

pub returns-in-Return : goal.returns-in-Return
returns-in-Return c =
    let some = walked_some c.loop-i.invariant c.loop-i-test.false c.in-Return.is in
    walked_return c.loop-i.invariant c.loop-i-test.false c.in-Return.is (omega arith)
