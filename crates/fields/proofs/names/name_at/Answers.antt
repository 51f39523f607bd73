-- A name holds no quote, so what is read without the quotes is the field's.
use Rattle.fields.proofs.names.Names.{name_field}
use Rattle.fields.proofs.names.name_at.Goals as goal

pub returns : goal.returns
returns c = name_field c.bare.ensures c.name_of.result c.name_of.ensures
