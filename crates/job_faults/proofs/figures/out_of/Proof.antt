-- The columns are those of the row's kind, and the first that is out of range is the first of the six.
use borrow.Author.Rules.{rules}
use native.Mathlib.Decide.{dec_le}
use native.Mathlib.Omega.{arith}
use mathlib.Core.Path.{refl, subst}
use Prim.Native.Nat.{◌+◌}
use Rattle.arithmetic.proofs.Cases.{by_cases}
use Rattle.kinds.specs.declared.Columns.{Columns}
use Rattle.kinds.specs.ranges.Range.{InColumns}
use Rattle.job_faults.specs.First.{StandsAt}
use Rattle.job_faults.specs.Out.{fillings}
use Rattle.job_faults.specs.steps.Figures.{FirstOut}
use Rattle.job_faults.proofs.figures.out_of.Statement.{statement}
use Rattle.job_faults.proofs.figures.out_of.Tie as tie

columns-of-requires : tie.Need-columns_of-columns-requires
columns-of-requires c κs = search rules

first-out-requires : tie.Need-first_out-place-requires
first-out-requires c κs =
    λ r. c.requires (subst (λ (k : Columns). InColumns k c.args.row.numbers) c.columns_of-columns.ensures r)

filling-at-requires : tie.Need-filling_at-filling-requires
filling-at-requires c κs = c.first_out-place.ensures.there

add-t10 : tie.Need-overflow_add-result
add-t10 c = omega (arith, c.first_out-place.ensures.there)

returns : tie.Need-returns
returns c =
    let numbers = c.args.row.numbers in
    let place = c.first_out-place.result in
    let filling = c.filling_at-filling.result in
    let e = c.columns_of-columns.ensures in
    let f = subst (λ (k : Columns). FirstOut k numbers place) e c.first_out-place.ensures in
    let s = subst (λ (k : Columns). StandsAt (fillings k numbers) place filling) e c.filling_at-filling.ensures in (
      refl,
      record {
        nth = place + 1;
        first = record { place = place; counted = refl; stands = s; shows = f.out filling s; first = λ i b t n. by_cases (dec_le place i) (λ k. k) (λ k. absurd (n (f.before i b (omega arith) t))) };
        counted = omega arith;
        same = refl;
      },
    )

pub out_of_spec : {M : Type 1} → statement M
out_of_spec = tie.close (tie.spec columns-of-requires first-out-requires filling-at-requires add-t10 returns)
