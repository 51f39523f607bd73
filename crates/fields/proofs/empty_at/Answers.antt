-- A field is left empty exactly if the stretch without its quotes has no byte: an empty content needs no unescaping.
use Rattle.std.specs.Prelude.{Some}
use Rattle.fields.proofs.content.Contents.{nothing}
use Rattle.fields.proofs.Numerals.{empty_field}
use Rattle.fields.proofs.empty_at.Goals as goal

pub returns-then-content-eq0 : goal.returns-then-content-eq0
returns-then-content-eq0 c = empty_field c.bare-content.ensures (Some _) (nothing _ c.if-content-eq0.true, c.blank_entry.ensures)
