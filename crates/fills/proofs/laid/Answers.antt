-- A fill whose words are the member's is put at its place, and any other changes nothing there.
use Rattle.std.proofs.Common.{◌≡◌, length, arith, sym, subst}
use Rattle.fills.specs.digest.Digest.{DigestOf}
use Rattle.fills.proofs.Laying.{laid_start, laying_put, laying_skip}
use Rattle.fills.proofs.laid.Goals as goal
use Rattle.fills.proofs.laid.Goals.{then-fill-key+then-at-key, else-fill-key, else-fill-key-via-then-fill-key+else-at-key, else-fill-key-via-else-fill-key}

pub loop-fill-init : goal.loop-fill-init
loop-fill-init c = λ fs d m p a b. laid_start c.requires.five_by_five

pub loop-fill-preserved : goal.loop-fill-preserved
loop-fill-preserved c =
    elim c.if-fill-key.branch [
      | then-fill-key+then-at-key w ↦ rw w.held-is (laying_put c.loop-fill.invariant c.loop-fill-test.true w.if-fill-key.true w.if-at-key.true)
      | else-fill-key w ↦
          rw w.held-is
          (elim w.else-fill-key.branch [
            | else-fill-key-via-then-fill-key+else-at-key x ↦ laying_skip c.loop-fill.invariant c.loop-fill-test.true (λ e f. x.if-at-key.false f)
            | else-fill-key-via-else-fill-key x ↦ laying_skip c.loop-fill.invariant c.loop-fill-test.true (λ e f. x.if-fill-key.false e)
          ])
    ]

pub returns : goal.returns
returns c = λ fs d.
    let is = c.name_key-key.ensures in
    let same = c.words-fill-items.ensures in
    let done : c.loop-fill.fill-index ≡ length c.words-fill-items.result.now = let left = c.loop-fill-test.false in let end = c.loop-fill.auto.fill-index-end in omega arith in
    rw (← same, ← done) (c.loop-fill.invariant fs (subst (DigestOf fs) (sym same) d) _ is.proper (sym is.high) (sym is.low))
