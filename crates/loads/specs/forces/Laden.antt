-- Document 02, P5, refusals: 19 and 20, of a G row.
use Rattle.std.specs.Prelude.{◌≡◌}
use Rattle.kinds.specs.declared.Row.{Row}
use Rattle.surcharge.specs.Surcharge.{abutment_in, NotAbove, TypeE}
use Rattle.kinds.specs.declared.classes.Source.TheVariants.{Surcharge}
use Rattle.kinds.specs.classes.Classes.{source}

-- "19, length not above B", of a G row
unfoldable pub LengthNotAbove : Row → Type 0
LengthNotAbove r = (source r.kind ≡ Surcharge) × NotAbove (abutment_in r.numbers)

-- "20, soil type e", of a G row
unfoldable pub SoilTypeE : Row → Type 0
SoilTypeE r = (source r.kind ≡ Surcharge) × TypeE (abutment_in r.numbers)
