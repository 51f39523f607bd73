-- One letter more is held.
use Rattle.fields.proofs.names.Names.{read_more}
use Rattle.fields.proofs.names.name_of.Goals as goal

pub loop-i-preserved : goal.loop-i-preserved
loop-i-preserved c =
    let inv = c.loop-i.invariant in
    record { some = inv.some; few = inv.few; read = read_more _ inv.few inv.read c.loop-i-test.true c.if-not-is_letter.ensures }
