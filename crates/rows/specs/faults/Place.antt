-- Where a refusal lies: what `fault_at` answers, for the row that starts at a place.
use Rattle.std.specs.Prelude.{ℕ, Option, List, ◌∷◌, drop}
use Rattle.csv_text.specs.rfc4180.Rfc4180.{Cell, File}
use Rattle.rows.specs.declared.faults.RowFault.{RowFault}
use Rattle.rows.specs.faults.Faults.{RowSays}

abbrev pub FaultAt : List ℕ → ℕ → Option RowFault → Type 0
FaultAt s start t = (cs : List Cell) (css : List (List Cell)) → File (drop start s) (cs ∷ css) → RowSays cs t
