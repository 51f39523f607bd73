-- Rows push one way where some push so and none the other way, and else both ways or not at all.
use mathlib.Core.Logic.{inl, inr}
use Rattle.warnings.specs.Warnings.{WayIs}
use Rattle.warnings.proofs.way_of.Goals as goal

pub returns-in-true-false : goal.returns-in-true-false
unfolding WayIs
returns-in-true-false c = let arm = c.in-true-false in (arm.ensures, arm.ensures')

pub returns-in-false-true : goal.returns-in-false-true
unfolding WayIs
returns-in-false-true c = let arm = c.in-false-true in (arm.ensures, arm.ensures')

pub returns-in-true-true : goal.returns-in-true-true
unfolding WayIs
returns-in-true-true c = let arm = c.in-true-true in inl (arm.ensures, arm.ensures')

pub returns-in-true-true-2 : goal.returns-in-true-true-2
unfolding WayIs
returns-in-true-true-2 c = let arm = c.in-true-true in inr (arm.ensures, arm.ensures')
