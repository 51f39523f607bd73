-- On the way to step k + 1 the row changes that the order names, and what is carried there is what the walk reaches.
use Rattle.std.proofs.Common.{◌≡◌, ℕ, ◌+◌, ◌*◌, ◌<◌, sym, ◌∙◌, ap, List, arith}
use native.Mathlib.Decide.{dec_le}
use Rattle.arithmetic.proofs.Cases.{by_cases}
use Rattle.arithmetic.proofs.Deciding.{decided}
use Rattle.sums.specs.declared.carried.Carried.{Carried}
use Rattle.sums.specs.steps.Carried.{moved}
use Rattle.worst.specs.steps.Order.{changed, taken}
use Rattle.worst.specs.steps.Steps.{reached, change_from}
use Rattle.worst.proofs.Order.{changed_low, taken_two}
use Rattle.worst.proofs.Stepping.{reached_more}
use Rattle.worst.proofs.pass_over.Goals as goal

-- the row that changes is one of 16
row_low : (k last : ℕ) → k < last → last < 65536 → changed (k + 1) < 16
row_low k last h few = changed_low 16 (k + 1) (omega arith) (omega arith) (omega arith)

pub bounds-steps-row : goal.bounds-steps-row
unfolding changed taken
bounds-steps-row c = omega (arith, row_low _ _ c.loop-k-test.true c.requires.ahead.few, taken_two (c.loop-k.k + 1))

-- what is carried to the next step
next_is : (steps : List Carried) (first carried next : Carried) (k : ℕ) → carried ≡ reached steps first k → next ≡ moved carried (change_from steps (2 * changed (k + 1) + taken (k + 1))) → next ≡ reached steps first (k + 1)
next_is steps first carried next k e n = n ∙ ap (λ (x : Carried). moved x (change_from steps (2 * changed (k + 1) + taken (k + 1)))) e ∙ sym (reached_more steps first k)

pub within-requires-clause-small_carried : goal.within-requires-clause-small_carried
unfolding changed taken change_from
within-requires-clause-small_carried c =
    let a = c.requires.ahead in
    rw (next_is _ a.first _ _ _ (c.loop-k.invariant.2 a.first a.here).0 c.moved-carried.ensures) (a.small (c.loop-k.k + 1) (omega arith))

pub returns-then-not-within : goal.returns-then-not-within
unfolding changed taken change_from
returns-then-not-within c =
    let inv = c.loop-k.invariant in
    record {
      onward = λ h. omega (arith, inv.0);
      ends = λ h. omega arith;
      here = λ first e. next_is _ first _ _ _ (inv.2 first e).0 c.moved-carried.ensures;
      over = λ first e j p q. (inv.2 first e).1 j p (omega arith);
    }

pub loop-k-preserved : goal.loop-k-preserved
unfolding changed taken change_from
loop-k-preserved c =
    let inv = c.loop-k.invariant in
    let w = c.within in
    let a = c.args in (
      omega (arith, inv.0),
      λ h. omega arith,
      λ first e.
          let next = next_is _ first _ _ _ (inv.2 first e).0 c.moved-carried.ensures in (
            next,
            λ j p q.
                by_cases (dec_le j c.loop-k.k) (λ l. (inv.2 first e).1 j p l)
                (λ l.
                let n : j ≡ c.loop-k.k + 1 = omega arith in
                rw (n, ← next) (decided w.result c.if-not-within.false w.ensures)),
          ),
    )
