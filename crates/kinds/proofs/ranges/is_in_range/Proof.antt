-- An empty column asks nothing of its entry. Of the other two each has a test of its own, with the bounds that the column holds.
use mathlib.Core.Path.{sym, subst}
use mathlib.Core.Logic.{inl, inr}
use Rattle.kinds.specs.ranges.Range.{InRange}
use Rattle.kinds.specs.declared.Column.{Column}
use Rattle.kinds.proofs.ranges.Ranges.{filled_decides, signed_decides}
use borrow.Author.Rules.{rules}
use Rattle.kinds.proofs.ranges.is_in_range.Statement.{statement}
use Rattle.kinds.proofs.ranges.is_in_range.Tie as tie
use Rattle.kinds.proofs.ranges.is_in_range.Lts.{then-entry, else-entry}

enum_told : tie.Need-enum_told-1
enum_told c = search rules

enum-known-column : tie.Need-enum_known-column
enum-known-column c = search rules

enum-known-column-2 : tie.Need-enum_known-column-in-Signed-1
enum-known-column-2 c = search rules

returns : tie.Need-returns-in-Empty
returns c = subst (λ (k : Column). InRange k c.args.entry) (sym c.in-Empty.is) tt

returns-2 : tie.Need-returns-in-Filled
returns-2 c =
    filled_decides c.args.column c.args.entry c.in-Filled.low c.in-Filled.high c.in-Filled.is

returns-3 : tie.Need-returns-after-entry
returns-3 c =
    let limit = c.if-entry in
    signed_decides c.args.column c.args.entry c.in-Signed.below c.in-Signed.above limit.limit c.in-Signed.is
    (elim limit.branch [ then-entry w ↦ inl (w.if-entry.true, w.limit-is) | else-entry w ↦ inr (w.if-entry.false, w.limit-is) ])

pub is_in_range_spec : {M : Type 1} → statement M
is_in_range_spec = tie.close (tie.spec enum_told enum-known-column enum-known-column-2 returns returns-2 returns-3)
