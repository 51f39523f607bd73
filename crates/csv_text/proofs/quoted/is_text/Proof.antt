-- TEXTDATA is every byte from a blank to a tilde but the quote and the comma: the four tests.
use Rattle.csv_text.proofs.quoted.Bytes.{text_decides}
use Rattle.csv_text.proofs.quoted.is_text.Statement.{statement}
use Rattle.csv_text.proofs.quoted.is_text.Tie as tie

returns : tie.Need-returns
returns c = text_decides c.args.b

pub is_text_spec : {M : Type 1} → statement M
is_text_spec = tie.close (tie.spec returns)
