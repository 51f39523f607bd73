-- The letters are those of one kind, and each test is exact.
use Rattle.std.proofs.Common.{◌∙◌, subst, sym, arith}
use Rattle.kinds.proofs.letters.Letters.{letters_one}
use Rattle.reactions.specs.Asked.{Taken}
use Rattle.reactions.proofs.asked_kind.Goals as goal

pub returns-then-phase-gt2 : goal.returns-then-phase-gt2
returns-then-phase-gt2 c = λ key of a. let p = a.phased in omega arith

pub returns-in_err-of : goal.returns-in_err-of
returns-in_err-of c = rw c.from_residual.ensures (λ key of a. c.in_err-of.ensures of a.lettered)

pub returns-in_err-_member : goal.returns-in_err-_member
returns-in_err-_member c = rw c.from_residual-in_err-_member.ensures (λ key of a. c.in_err-_member.ensures a.member_named.is)

pub returns-in_err-_job : goal.returns-in_err-_job
returns-in_err-_job c = rw c.from_residual-in_err-_job.ensures (λ key of a. c.in_err-_job.ensures a.job_named.is)

pub returns-then-is_taken : goal.returns-then-is_taken
returns-then-is_taken c = (
  record { member = c.in_ok-_member._member; job = c.in_ok-_job._job },
  record { member_named = c.in_ok-_member.ensures; job_named = c.in_ok-_job.ensures; lettered = c.in_ok-of.ensures; taken = c.if-is_taken.ensures; phased = omega arith },
)

pub returns-else-is_taken : goal.returns-else-is_taken
returns-else-is_taken c = λ key of a. c.if-is_taken.ensures (subst Taken (letters_one of c.in_ok-of.of (sym a.lettered ∙ c.in_ok-of.ensures)) a.taken)
