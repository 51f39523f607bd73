-- What is gathered for the members of the jobs is what the books hold for the jobs.
use mathlib.Core.Path.{◌≡◌, subst}
use native.Mathlib.Omega.{arith}
use Rattle.debtarush.proofs.Members.{Named, tabled}
use Rattle.debtarush.proofs.gather.Goals as goal

pub returns : goal.returns
returns c =
    let done : c.loop-k.k ≡ c.args.n = omega arith in
    tabled (subst (Named _ _) done c.loop-k.invariant) c.requires.0 c.requires.1 c.values_for.ensures
