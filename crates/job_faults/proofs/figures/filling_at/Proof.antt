-- Each of the six columns has an arm of its own.
use native.Mathlib.Omega.{arith}
use mathlib.Core.Path.{◌≡◌, refl}
use Rattle.job_faults.specs.First.{StandsAt}
use Rattle.job_faults.proofs.figures.filling_at.Statement.{statement}
use Rattle.job_faults.proofs.figures.filling_at.Tie as tie

returns : tie.Need-returns-in-0
unfolding StandsAt
returns c =
    let e : c.args.place ≡ 0 = c.in-0.is in
    rw e refl

returns-2 : tie.Need-returns-in-1
unfolding StandsAt
returns-2 c =
    let e : c.args.place ≡ 1 = c.in-1.is in
    rw e refl

returns-3 : tie.Need-returns-in-2
unfolding StandsAt
returns-3 c =
    let e : c.args.place ≡ 2 = c.in-2.is in
    rw e refl

returns-4 : tie.Need-returns-in-3
unfolding StandsAt
returns-4 c =
    let e : c.args.place ≡ 3 = c.in-3.is in
    rw e refl

returns-5 : tie.Need-returns-in-4
unfolding StandsAt
returns-5 c =
    let e : c.args.place ≡ 4 = c.in-4.is in
    rw e refl

returns-6 : tie.Need-returns-in_default
unfolding StandsAt
returns-6 c =
    let e : c.args.place ≡ 5 = omega (arith, c.requires, c.in_default.in_default-own.rest.1, c.in_default.in_default-own.rest.0.1, c.in_default.in_default-own.rest.0.0.1, c.in_default.in_default-own.rest.0.0.0.1, c.in_default.in_default-own.rest.0.0.0.0.1) in
    rw e refl

pub filling_at_spec : {M : Type 1} → statement M
filling_at_spec = tie.close (tie.spec returns returns-2 returns-3 returns-4 returns-5 returns-6)
