-- A job has one answer to a row.
use mathlib.Core.Path.{◌≡◌, refl, sym, ap, ◌∙◌}
use Rattle.rows.specs.declared.keys.Keyed.{Keyed}
use Rattle.std.specs.Prelude.{Result, Ok, Err}
use Rattle.rows.specs.declared.refusals.Refusal.{Refusal}
use Rattle.rows.proofs.refusals.Numbers.{number_one}
use Rattle.jobs.specs.Taking.{TakenIs, TakeSays, take_told}
use Rattle.jobs.specs.declared.Job.{Job}
use Rattle.jobs.specs.declared.Took.{Took}
use Rattle.jobs.specs.declared.Took.TheVariants.{Joined, Started}
use Rattle.jobs.specs.declared.Taken.{Taken}

take_says_one : (j : Job) (r : Keyed) (a b : Result Took Refusal) (m n : Job) → TakeSays j r (take_told a) m → TakeSays j r (take_told b) n → (a ≡ b) × (m ≡ n)
take_says_one j r (Ok Started) (Ok Started) m n p q = (refl, p.2 ∙ sym q.2)
take_says_one j r (Ok Started) (Ok Joined) m n p q = absurd (q.0 p.0)
take_says_one j r (Ok Started) (Err b) m n p q = absurd (q.1 p.1)
take_says_one j r (Ok Joined) (Ok Started) m n p q = absurd (p.0 q.0)
take_says_one j r (Ok Joined) (Ok Joined) m n p q = (refl, p.2 ∙ sym q.2)
take_says_one j r (Ok Joined) (Err b) m n p q = absurd (q.1 p.1)
take_says_one j r (Err a) (Ok Started) m n p q = absurd (p.1 q.1)
take_says_one j r (Err a) (Ok Joined) m n p q = absurd (p.1 q.1)
take_says_one j r (Err a) (Err b) m n p q = (ap Err (number_one a b (p.0 ∙ sym q.0)), p.2 ∙ sym q.2)

pub taken_one : (j : Job) (r : Keyed) (s t : Taken) → TakenIs j r s → TakenIs j r t → s ≡ t
taken_one j r s t p q =
    let w = take_says_one j r s.answer t.answer s.job t.job p q in
    λ i. record { answer = w.0 i; job = w.1 i }
