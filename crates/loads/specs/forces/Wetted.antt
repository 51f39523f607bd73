-- Document 02, P1, refusals: 17, of a W row.
use Rattle.std.specs.Prelude.{◌≡◌}
use Rattle.kinds.specs.declared.Row.{Row}
use Rattle.current.specs.Current.{refused, shaft_in, CurrentRule}
use Rattle.kinds.specs.declared.classes.Source.TheVariants.{Current}
use Rattle.kinds.specs.classes.Classes.{source}

-- "17, upper below lower", of a W row
unfoldable pub UpperBelowLower : Row → Type 0
UpperBelowLower r = (source r.kind ≡ Current) × CurrentRule (shaft_in r.numbers) (refused 17)
