-- Document 01, refusals of a book, 4, and where a refusal lies: "the first of these that holds: no B row before; a B row, or the end, while the job
-- has no load row; a key that is not its job's; a second S; S behind a load row; C without S; a second C; C behind a load row; a 17th load row."
use Rattle.std.specs.Prelude.{ℕ, ◌≤◌}
use Rattle.jobs.specs.declared.misplaced.Misplaced.{Misplaced}
use Rattle.jobs.specs.declared.misplaced.Misplaced.TheVariants.{NoBase, NoLoad, OtherKey, SecondScour, LateScour, NoScour, SecondClearance, LateClearance, SurplusLoad}

-- the rules in their order
abbrev pub rule_number : Misplaced → ℕ
rule_number NoBase = 1
rule_number NoLoad = 2
rule_number OtherKey = 3
rule_number SecondScour = 4
rule_number LateScour = 5
rule_number NoScour = 6
rule_number SecondClearance = 7
rule_number LateClearance = 8
rule_number SurplusLoad = 9

-- the first of these that holds
pub record FirstRule (Rule : Misplaced → Type 0) (why : Misplaced) : Type 0 where
  pub holds : Rule why
  pub first : (other : Misplaced) → Rule other → rule_number why ≤ rule_number other
