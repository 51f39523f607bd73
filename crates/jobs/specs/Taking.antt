-- Document 01, refusals of a book: what a job answers to a row. A row out of place is refused with 4.
use Rattle.std.specs.Prelude.{ℕ, ◌≡◌, Result, Ok, Err}
use Rattle.kinds.specs.Table.{role}
use Rattle.kinds.specs.declared.Role.TheVariants.{Base}
use Rattle.rows.specs.declared.keys.Keyed.{Keyed}
use Rattle.rows.specs.refusals.Numbers.{refusal_number}
use Rattle.rows.specs.declared.refusals.Refusal.{Refusal}
use Rattle.jobs.specs.Place.{InPlace, grown}
use Rattle.jobs.specs.declared.Job.{Job}
use Rattle.jobs.specs.declared.Took.{Took}
use Rattle.jobs.specs.declared.Took.TheVariants.{Joined, Started}
use Rattle.jobs.specs.declared.Taken.{Taken}

-- a row starts the next job, or joins this one, or is refused with a number
pub data TakeTold : Type 0 where
  starts : TakeTold
  joins : TakeTold
  refused : ℕ → TakeTold

abbrev pub take_told : Result Took Refusal → TakeTold
take_told (Err why) = refused (refusal_number why)
take_told (Ok Joined) = joins
take_told (Ok Started) = starts

-- exactly when, and the job that comes of it: taken, with exactly that row more; refused, and the job as it stood
abbrev pub TakeSays : Job → Keyed → TakeTold → Job → Type 0
TakeSays j r starts next = (role r.row.kind ≡ Base) × InPlace j r × (next ≡ grown j r)
TakeSays j r joins next = (role r.row.kind ≡ Base → ⊥) × InPlace j r × (next ≡ grown j r)
TakeSays j r (refused n) next = (n ≡ 4) × (InPlace j r → ⊥) × (next ≡ j)

abbrev pub TakenIs : Job → Keyed → Taken → Type 0
TakenIs j r t = TakeSays j r (take_told t.answer) t.job
