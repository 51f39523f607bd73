-- The loop keeps what stands right before i, and where its field starts.
use Rattle.csv_text.proofs.strays.Walking.{Walked}
use Rattle.csv_text.proofs.strays.text_fault.Given as goal

abbrev pub invariant-loop-i : goal.invariant-loop-i
invariant-loop-i l = Walked l.s l.spot l.field l.i
