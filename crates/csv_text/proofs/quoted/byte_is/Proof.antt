-- What stands from i on begins with the byte exactly if i is in the text and that byte is there; past the end nothing begins.
use Rattle.csv_text.proofs.rfc4180.Parts.{past_first_byte}
use borrow.Author.Rules.{rules}
use Rattle.csv_text.proofs.quoted.Scan.{first_byte_decides}
use Rattle.csv_text.proofs.quoted.byte_is.Statement.{statement}
use Rattle.csv_text.proofs.quoted.byte_is.Tie as tie

shared-slice-read-result : tie.Need-bounds-s-i
shared-slice-read-result c = search rules

returns : tie.Need-returns-then-i-s
returns c = first_byte_decides c.args.s.now c.args.i c.args.b c.if-i-s.true

returns-2 : tie.Need-returns
returns-2 c = λ g. past_first_byte c.args.s.now c.args.i _ _ c.if-i-s.false g.begins

pub byte_is_spec : {M : Type 1} → statement M
byte_is_spec = tie.close (tie.spec shared-slice-read-result returns returns-2)
