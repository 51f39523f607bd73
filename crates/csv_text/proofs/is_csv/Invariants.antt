-- The text is readable exactly if what is left of it is.
use Rattle.std.proofs.Common.{length, ◌-◌, ◌≤◌, drop}
use Rattle.std.specs.Prelude.{◌↔◌}
use Rattle.csv_text.specs.rfc4180.Rfc4180.{Readable}
use Rattle.csv_text.proofs.is_csv.Given as goal

abbrev pub invariant-loop-e : goal.invariant-loop-e
invariant-loop-e l = record { within : l.at ≤ length l.s; same : Readable l.s ↔ Readable (drop l.at l.s) }

abbrev pub decreases-loop-e : goal.decreases-loop-e
decreases-loop-e l = length l.s - l.at
