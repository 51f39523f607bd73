-- What a row does is what its step says: it joins the last job, or begins one whose key is new, and the jobs grow by it; or the walk stops there.
use Rattle.std.proofs.Common.{◌≡◌, ◌∙◌, ℕ, List, refl, ap, subst, replicate}
use Rattle.std.specs.Prelude.{Result, Ok, Err}
use Rattle.rows.specs.declared.refusals.Refusal.{Refusal}
use Rattle.jobs.specs.declared.Took.{Took}
use Rattle.jobs.specs.declared.Took.TheVariants.{Joined, Started}
use Rattle.book.specs.steps.Step.{Goes, StepIs}
use Rattle.book.specs.declared.step.Step.{Step}
use Rattle.jobs.specs.declared.Job.{Job}
use Rattle.book.proofs.Walking.{walk_start, walk_refused, walk_barred, begun_new, part_begins, keys_few, Behind, behind_joined, behind_started, behind_more, behind_through}
use Rattle.book.proofs.walk.walk_rows.Goals as goal
use Rattle.book.proofs.walk.walk_rows.Goals.{in-Joined, in-Started+in_default}

pub loop-took-init : goal.loop-took-init
loop-took-init c =
    let e = c.blank_job-job.ensures in
    walk_start c.requires.s_len_bound c.requires.readable (record { many = refl; keys = ap (λ (j : Job). replicate 64 j.key) e; jobs = ap (λ (j : Job). replicate 64 j) e; job = e })

-- what the row does, as the arm that it came to has it
went : {s : List ℕ} {at : ℕ} {j : Job} {t : Step} (h : StepIs s at j t) (way : Result Took Refusal) → t.way ≡ way → Goes j h.row way t.job
went {j = j} {t} h way e = subst (λ (w : Result Took Refusal). Goes j h.row w t.job) e h.goes

pub returns-in-Err : goal.returns-in-Err
returns-in-Err c =
    let g = went c.step_at-step.ensures (Err c.in-Err.why) c.in-Err.is in
    walk_refused c.loop-took.invariant c.step_at-step.ensures.seen c.in-Err.why c.step_at-step.result.job g.1 g.0

pub returns-in-Err-may_begin : goal.returns-in-Err-may_begin
returns-in-Err-may_begin c =
    let i = c.loop-took.invariant in
    let g = went c.step_at-step.ensures (Ok Started) (c.in-Ok.is ∙ ap Ok c.in-Started.is) in
    walk_barred i c.step_at-step.ensures.seen g.has_form _ g.taken c.in-Err-may_begin.why (part_begins _ _ _ (keys_few i) (Err c.in-Err-may_begin.why) c.in-Err-may_begin.ensures) refl

pub returns-then-s-step : goal.returns-then-s-step
returns-then-s-step c =
    let i = c.loop-took.invariant in
    let h = c.step_at-step.ensures.seen in
    let b : Behind i h c.step_at-step.result.job c.match-took.keys c.match-took.count = elim c.match-took.branch [
      | in-Joined w ↦ rw (w.keys-is, w.count-is) (behind_joined i h (went c.step_at-step.ensures (Ok Joined) (c.in-Ok.is ∙ ap Ok w.in-Joined.is)))
      | in-Started+in_default w ↦
          let new = begun_new (part_begins _ _ _ (keys_few i) (Ok w.in_default.field-0) w.in_default.ensures) refl in
          rw (w.keys-is, w.count-is) (behind_started i h (went c.step_at-step.ensures (Ok Started) (c.in-Ok.is ∙ ap Ok w.in-Started.is)) new.0 new.1)
    ] in
    behind_through i h b c.if-s-step.true

pub loop-took-preserved : goal.loop-took-preserved
loop-took-preserved c =
    let i = c.loop-took.invariant in
    let h = c.step_at-step.ensures.seen in
    let b : Behind i h c.step_at-step.result.job c.match-took.keys c.match-took.count = elim c.match-took.branch [
      | in-Joined w ↦ rw (w.keys-is, w.count-is) (behind_joined i h (went c.step_at-step.ensures (Ok Joined) (c.in-Ok.is ∙ ap Ok w.in-Joined.is)))
      | in-Started+in_default w ↦
          let new = begun_new (part_begins _ _ _ (keys_few i) (Ok w.in_default.field-0) w.in_default.ensures) refl in
          rw (w.keys-is, w.count-is) (behind_started i h (went c.step_at-step.ensures (Ok Started) (c.in-Ok.is ∙ ap Ok w.in-Started.is)) new.0 new.1)
    ] in
    behind_more i h b c.if-s-step.false
