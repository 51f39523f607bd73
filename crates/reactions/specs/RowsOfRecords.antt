-- Document 02, P6: what holds of the rows that records give, beside that `reaction_row` meets `Reacts` on every input.
use Rattle.std.specs.Prelude.{ℕ, ◌≡◌, List, Result}
use Rattle.reactions.specs.declared.xdr.Reaction.{Reaction}
use Rattle.reactions.specs.declared.RowRefusal.{RowRefusal}
use Rattle.reactions.specs.xdr.Record.{IsRecord}
use Rattle.reactions.specs.Exact.{ExactWhereWhole}
use Rattle.reactions.specs.row.Text.{row_numbers}
use Rattle.reactions.specs.row.Reads.{IsLoadRow}
use Rattle.reactions.specs.Reacts.{RowTold, row_told, GivesRow, Reacts}

pub record RowsOfRecords : Type 0 where
  -- a record has one reading
  pub one_reading : (sent : List ℕ) (r t : Reaction) → IsRecord sent r → IsRecord sent t → r ≡ t
  -- a call has one answer, and leaves one state of the buffer
  pub one_answer : (member job kind : List ℕ) (phase : ℕ) (sent before x y : List ℕ) (t u : RowTold)
      → Reacts member job kind phase sent before x t → Reacts member job kind phase sent before y u → (x ≡ y) × (t ≡ u)
  -- and no two answers are told alike
  pub told_apart : (a b : Result ℕ RowRefusal) → row_told a ≡ row_told b → a ≡ b
  -- the row is a load row of the job book, and has exactly this key, kind and numbers
  pub load_row : (member job kind : List ℕ) (phase : ℕ) (sent bytes : List ℕ) (g : GivesRow member job kind phase sent bytes)
      → IsLoadRow bytes (record { key = g.key; row = record { kind = g.of; numbers = row_numbers g.rounded phase } })
  -- products of whole numbers are exact
  pub exact : ExactWhereWhole
