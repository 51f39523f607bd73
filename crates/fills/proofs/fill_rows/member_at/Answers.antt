-- In the members' own book the field is a name, in the common one it is empty.
use Rattle.fills.proofs.fill_rows.Cells.{own_member, some_member}
use Rattle.fills.proofs.fill_rows.member_at.Goals as goal

pub returns-in-Own : goal.returns-in-Own
returns-in-Own c = own_member c.args.raw.now c.in-Own.is c.name_at.result c.name_at.ensures

pub returns-in-None : goal.returns-in-None
returns-in-None c = some_member c.in-Common.is c.in-None.ensures
