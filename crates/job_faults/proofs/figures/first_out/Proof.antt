-- The columns passed are in range. Where the first five are, the sixth is not, or all were.
use borrow.Author.Rules.{rules}
use native.Mathlib.Decide.{dec_le}
use native.Mathlib.Omega.{arith}
use mathlib.Core.Path.{◌≡◌, subst}
use Prim.Native.Nat.{ℕ, ◌-◌, ◌≤◌, ◌<◌}
use Rattle.arithmetic.proofs.Cases.{by_cases}
use Rattle.arithmetic.proofs.Deciding.{decided, refuted}
use Rattle.job_faults.specs.declared.figures.Filling.{Filling}
use Rattle.job_faults.specs.First.{StandsAt}
use Rattle.job_faults.specs.Out.{fillings}
use Rattle.job_faults.proofs.Standing.{stands_one}
use Rattle.job_faults.proofs.figures.Filled.{FillingRanged, all_ranged}
use Rattle.job_faults.proofs.figures.first_out.Statement.{statement}
use Rattle.job_faults.proofs.figures.first_out.Tie as tie

abbrev invariant-loop : tie.invariant-loop-place
invariant-loop columns numbers place₀ place = (place ≤ 5) × ((i : ℕ) (f : Filling) → i < place → StandsAt (fillings columns numbers) i f → FillingRanged f)

abbrev decreases-loop : tie.decreases-loop-place
decreases-loop columns numbers place₀ place = 5 - place

loop-holds : tie.Need-loop-place-init invariant-loop decreases-loop
loop-holds c = (omega arith, λ i f h s. absurd (omega arith))

filling-at-requires : tie.Need-filling_at-filling-requires invariant-loop decreases-loop
filling-at-requires c κs = search rules

is-in-range-requires : tie.Need-is_in_range-requires invariant-loop decreases-loop
is-in-range-requires c κs = search rules

returns : tie.Need-returns-then-not-is_in_range invariant-loop decreases-loop
returns c =
    record {
      there = omega (arith, c.loop-place-test.true);
      out = λ f s r. refuted c.is_in_range.result c.if-not-is_in_range.true c.is_in_range.ensures (subst FillingRanged (stands_one (fillings c.args.columns c.args.numbers) c.loop-place.place s c.filling_at-filling.ensures) r);
      before = c.loop-place.invariant.1;
    }

add-place : tie.Need-overflow_add-place invariant-loop decreases-loop
add-place c = omega (arith, c.loop-place-test.true)

loop-less : tie.Need-loop-place-smaller invariant-loop decreases-loop
loop-less c = omega (arith, c.loop-place-test.true)

loop-again : tie.Need-loop-place-preserved invariant-loop decreases-loop
loop-again c =
    let test = c.loop-place-test.true in
    let columns = fillings c.args.columns c.args.numbers in
    let place = c.loop-place.place in (
      omega arith,
      λ i f h s.
          by_cases (dec_le place i)
          (λ k.
          let e : i ≡ place = omega arith in
          subst FillingRanged (stands_one columns place c.filling_at-filling.ensures (subst (λ (j : ℕ). StandsAt columns j f) e s)) (decided c.is_in_range.result c.if-not-is_in_range.false c.is_in_range.ensures))
          (λ k. c.loop-place.invariant.1 i f (omega arith) s),
    )

returns-2 : tie.Need-returns invariant-loop decreases-loop
returns-2 c =
    record {
      there = omega (arith, c.loop-place.invariant.0);
      out = λ f s r. c.requires (all_ranged c.args.columns c.args.numbers c.loop-place.place f c.loop-place-test.false c.loop-place.invariant.0 c.loop-place.invariant.1 s r);
      before = c.loop-place.invariant.1;
    }

pub first_out_spec : {M : Type 1} → statement M
first_out_spec = tie.close (tie.spec invariant-loop decreases-loop loop-holds filling-at-requires is-in-range-requires returns add-place loop-less loop-again returns-2)
