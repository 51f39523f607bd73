-- Six answers joined decide all six columns, and the columns are those that the table gives the kind.
use mathlib.Core.Path.{subst}
use mathlib.Core.Bool.{◌&&◌}
use Rattle.arithmetic.specs.decides.Decides.{Decides}
use Rattle.kinds.specs.ranges.Range.{InColumns}
use Rattle.kinds.specs.declared.Columns.{Columns}
use Rattle.kinds.proofs.ranges.Ranges.{all_in_range}
use borrow.Author.Rules.{rules}
use Rattle.kinds.proofs.ranges.is_ranged.Statement.{statement}
use Rattle.kinds.proofs.ranges.is_ranged.Tie as tie

columns-of-requires : tie.Need-columns_of-c-requires
columns-of-requires c κs = search rules

is-in-range-requires : tie.Need-is_in_range-n1-requires
is-in-range-requires c κs = search rules

is-in-range-requires-2 : tie.Need-is_in_range-n2-requires
is-in-range-requires-2 c κs = search rules

is-in-range-requires-3 : tie.Need-is_in_range-n3-requires
is-in-range-requires-3 c κs = search rules

is-in-range-requires-4 : tie.Need-is_in_range-n4-requires
is-in-range-requires-4 c κs = search rules

is-in-range-requires-5 : tie.Need-is_in_range-n5-requires
is-in-range-requires-5 c κs = search rules

is-in-range-requires-6 : tie.Need-is_in_range-n6-requires
is-in-range-requires-6 c κs = search rules

returns : tie.Need-returns
returns c =
    let numbers = c.args.numbers in
    let answer = ((((c.is_in_range-n1.result && c.is_in_range-n2.result) && c.is_in_range-n3.result) && c.is_in_range-n4.result) && c.is_in_range-n5.result) && c.is_in_range-n6.result in
    subst (λ (k : Columns). Decides answer (InColumns k numbers)) c.columns_of-c.ensures
    (all_in_range c.columns_of-c.result numbers c.is_in_range-n1.result c.is_in_range-n2.result c.is_in_range-n3.result c.is_in_range-n4.result c.is_in_range-n5.result c.is_in_range-n6.result
    c.is_in_range-n1.ensures c.is_in_range-n2.ensures c.is_in_range-n3.ensures c.is_in_range-n4.ensures c.is_in_range-n5.ensures c.is_in_range-n6.ensures)

pub is_ranged_spec : {M : Type 1} → statement M
is_ranged_spec = tie.close (tie.spec columns-of-requires is-in-range-requires is-in-range-requires-2 is-in-range-requires-3 is-in-range-requires-4 is-in-range-requires-5 is-in-range-requires-6 returns)
