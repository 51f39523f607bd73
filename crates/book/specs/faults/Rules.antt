-- Where a refusal lies, 4: "the first of these that holds: no B row before; a B row, or the end, while the job has no load row; a key that is not its
-- job's; a second S; S behind a load row; C without S; a second C; C behind a load row; a 17th load row." Of a row behind the rows of these jobs.
use Rattle.std.specs.Prelude.{ℕ, ◌+◌, ◌≤◌, ◌≡◌, List, [], length}
use Rattle.kinds.specs.declared.Role.TheVariants.{Base, Scour, Clearance, Load}
use Rattle.rows.specs.Form.{BookRow}
use Rattle.jobs.specs.declared.misplaced.Misplaced.{Misplaced}
use Rattle.jobs.specs.declared.misplaced.Misplaced.TheVariants.{NoBase, NoLoad, OtherKey, SecondScour, LateScour, NoScour, SecondClearance, LateClearance, SurplusLoad}
use Rattle.book.specs.JobBook.{IsA, SameKey, River, dry, scoured, crossed, WrittenJob, job, base, Jobs, none, ◌and◌, rows_of}

-- the rules, of a row r behind the rows of these jobs, the last of which is the row's job
pub data Rule : Jobs → BookRow → Misplaced → Type 0 where
  -- no B row before
  no_base : {r : BookRow} → (IsA Base r → ⊥) → Rule none r NoBase
  -- a B row while the job has no load row
  blank_load : {js : Jobs} {b r : BookRow} {v : River} → IsA Base r → Rule (js and job b v []) r NoLoad
  -- a key that is not its job's
  other_key : {js : Jobs} {j : WrittenJob} {r : BookRow} → (IsA Base r → ⊥) → (SameKey (base j) r → ⊥) → Rule (js and j) r OtherKey
  -- a second S, in a job with an S row, or with an S and a C row
  second_scour : {js : Jobs} {b s r : BookRow} {ls : List BookRow} → IsA Scour r → Rule (js and job b (scoured s) ls) r SecondScour
  scour_behind_both : {js : Jobs} {b s c r : BookRow} {ls : List BookRow} → IsA Scour r → Rule (js and job b (crossed s c) ls) r SecondScour
  -- S behind a load row
  late_scour : {js : Jobs} {b r : BookRow} {v : River} {ls : List BookRow} → IsA Scour r → 1 ≤ length ls → Rule (js and job b v ls) r LateScour
  -- C without S
  no_scour : {js : Jobs} {b r : BookRow} {ls : List BookRow} → IsA Clearance r → Rule (js and job b dry ls) r NoScour
  -- a second C
  second_clearance : {js : Jobs} {b s c r : BookRow} {ls : List BookRow} → IsA Clearance r → Rule (js and job b (crossed s c) ls) r SecondClearance
  -- C behind a load row
  late_clearance : {js : Jobs} {b r : BookRow} {v : River} {ls : List BookRow} → IsA Clearance r → 1 ≤ length ls → Rule (js and job b v ls) r LateClearance
  -- a 17th load row
  surplus_load : {js : Jobs} {b r : BookRow} {v : River} {ls : List BookRow} → IsA Load r → 16 ≤ length ls → Rule (js and job b v ls) r SurplusLoad

-- 6: "the row of the earlier B row with that key". It stands right behind the rows of the jobs before its own
pub data UsedAt (r : BookRow) : Jobs → ℕ → Type 0 where
  last : {js : Jobs} {j : WrittenJob} {m : ℕ} → SameKey (base j) r → m ≡ length (rows_of js) + 1 → UsedAt r (js and j) m
  before : {js : Jobs} {j : WrittenJob} {m : ℕ} → UsedAt r js m → UsedAt r (js and j) m
