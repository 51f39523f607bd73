-- No kind has a quote in it, so the kind of the stretch without its quotes is the field's.
use Rattle.kinds.proofs.letters.Letters.{kind_field}
use Rattle.kinds.proofs.letters.kind_at.Goals as goal

pub returns : goal.returns
returns c = kind_field c.bare.ensures c.kind_of.result c.kind_of.ensures
