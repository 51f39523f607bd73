-- Document 01, refusals of a book, 4, and where a refusal lies: the rules of 4 of a row and the value of a job, and what `rule_of` answers.
use Rattle.std.specs.Prelude.{ℕ, ◌≤◌, ◌≡◌, Option, Some, None}
use Rattle.kinds.specs.Table.{role}
use Rattle.kinds.specs.declared.Role.{Role}
use Rattle.kinds.specs.declared.Role.TheVariants.{Base, Scour, Clearance, Load}
use Rattle.rows.specs.declared.keys.Keyed.{Keyed}
use Rattle.jobs.specs.declared.Job.{Job}
use Rattle.jobs.specs.declared.stages.Stage.{Stage}
use Rattle.jobs.specs.declared.stages.Stage.TheVariants.{Unbegun}
use Rattle.jobs.specs.declared.misplaced.Misplaced.{Misplaced}
use Rattle.jobs.specs.declared.misplaced.Misplaced.TheVariants.{NoBase, NoLoad, OtherKey, SecondScour, LateScour, NoScour, SecondClearance, LateClearance, SurplusLoad}
use Rattle.jobs.specs.stages.Rows.{HasScour, HasClearance}
use Rattle.jobs.specs.misplaced.Rules.{FirstRule}

-- each rule, of a row of this role and a job at this stage with so many load rows; `same` says that the row has the job's key
abbrev pub Holds : Role → Stage → ℕ → Type 0 → Misplaced → Type 0
Holds role stage count same NoBase = (role ≡ Base → ⊥) × (stage ≡ Unbegun)
Holds role stage count same NoLoad = (role ≡ Base) × (stage ≡ Unbegun → ⊥) × (count ≡ 0)
Holds role stage count same OtherKey = (role ≡ Base → ⊥) × (stage ≡ Unbegun → ⊥) × (same → ⊥)
Holds role stage count same SecondScour = (role ≡ Scour) × HasScour stage
Holds role stage count same LateScour = (role ≡ Scour) × (1 ≤ count)
Holds role stage count same NoScour = (role ≡ Clearance) × (stage ≡ Unbegun → ⊥) × (HasScour stage → ⊥)
Holds role stage count same SecondClearance = (role ≡ Clearance) × HasClearance stage
Holds role stage count same LateClearance = (role ≡ Clearance) × (1 ≤ count)
Holds role stage count same SurplusLoad = (role ≡ Load) × (16 ≤ count)

-- a row is in its place where no rule holds, and otherwise the first is told
abbrev pub PlacingSays : (Misplaced → Type 0) → Option Misplaced → Type 0
PlacingSays Rule None = (why : Misplaced) → Rule why → ⊥
PlacingSays Rule (Some why) = FirstRule Rule why

-- the rules of a row behind the rows that a job has
abbrev pub Broken : Job → Keyed → Misplaced → Type 0
Broken j r = Holds (role r.row.kind) j.stage j.count (j.key ≡ r.key)

abbrev pub PlacingIs : Job → Keyed → Option Misplaced → Type 0
PlacingIs j r p = PlacingSays (Broken j r) p
