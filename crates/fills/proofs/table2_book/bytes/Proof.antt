-- `fills::table2_book::bytes` meets its contract: the code's text is the definition's, by one computed equation.
use mathlib.Core.Path.{refl}
use Rattle.block.specs.Decimal.{digits, decimal}
use Rattle.fills.specs.table2_book.Text.{soil_fills, table_fills, row_text, book_text, table2_fills, table2_text}
use Rattle.fills.proofs.table2_book.bytes.Statement.{statement}
use Rattle.fills.proofs.table2_book.bytes.Tie as tie

returns : tie.Need-returns
unfolding soil_fills table_fills row_text book_text table2_fills table2_text digits decimal
returns c = refl

pub bytes_spec : {M : Type 1} → statement M
bytes_spec = tie.close (tie.spec returns)
