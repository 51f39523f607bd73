-- A column marked - takes an empty field, and either other column a number whatever its bounds: that is all that a form asks.
use Rattle.std.proofs.Common.{subst, sym}
use Rattle.fields.specs.Entries.{EntryAt}
use Rattle.kinds.specs.Form.{Means}
use Rattle.kinds.specs.declared.Column.{Column}
use Rattle.rows.proofs.entry_at.Goals as goal

pub returns-in-Empty : goal.returns-in-Empty
returns-in-Empty c = subst (λ (k : Column). EntryAt (Means k) c.args.raw.now c.empty_at.result) (sym c.in-Empty.is) c.empty_at.ensures

pub returns-in-Filled : goal.returns-in-Filled
returns-in-Filled c = subst (λ (k : Column). EntryAt (Means k) c.args.raw.now c.number_at.result) (sym c.in-Filled.is) c.number_at.ensures

pub returns-in-Signed : goal.returns-in-Signed
returns-in-Signed c = subst (λ (k : Column). EntryAt (Means k) c.args.raw.now c.number_at-in-Signed.result) (sym c.in-Signed.is) c.number_at-in-Signed.ensures
