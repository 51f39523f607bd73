-- At each step the sums carried are those that the walk reaches there, and every step passed is within the bounds.
use Rattle.std.proofs.Common.{◌≡◌, ℕ, ◌-◌, ◌<◌, ◌≤◌}
use Rattle.sums.specs.declared.carried.Carried.{Carried}
use Rattle.weighing.specs.steps.Bounds.{Within}
use Rattle.worst.specs.steps.Steps.{reached}
use Rattle.worst.proofs.pass_over.Given as goal

abbrev pub invariant-loop-k : goal.invariant-loop-k
invariant-loop-k l =
    (l.initial.k ≤ l.k) × (l.initial.k ≤ l.last → l.k ≤ l.last)
    × ((first : Carried) → l.initial.carried ≡ reached l.steps first l.initial.k → (l.carried ≡ reached l.steps first l.k) × ((j : ℕ) → l.initial.k < j → j ≤ l.k → Within l.width l.bounds (reached l.steps first j)))

abbrev pub decreases-loop-k : goal.decreases-loop-k
decreases-loop-k l = l.last - l.k
