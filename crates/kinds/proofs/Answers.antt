-- A field holds one entry in a column.
use Prim.Native.Nat.{ℕ}
use mathlib.Core.Path.{◌≡◌, sym, ◌∙◌}
use mathlib.Core.List.{List}
use Rattle.fields.specs.declared.Entry.{Entry}
use Rattle.fields.proofs.Numerals.{number_unique}
use Rattle.kinds.specs.Form.{Means}
use Rattle.kinds.specs.declared.Column.{Column}
use Rattle.kinds.specs.declared.Column.TheVariants.{Empty, Filled, Signed}

pub means_one : (k : Column) (c : List ℕ) (a b : Entry) → Means k c a → Means k c b → a ≡ b
means_one Empty c a b p q = p.1 ∙ sym q.1
means_one (Filled low high) c a b p q = number_unique p q
means_one (Signed below above) c a b p q = number_unique p q
