-- Several tests in one, and what they decide together. Other crates' proofs cite them.
use Prim.Native.Nat.{ℕ, ◌≤◌}
use mathlib.Core.Bool.{Bool, ◌&&◌}
use lib.Dec.{leb}
use Rattle.arithmetic.specs.decides.Decides.{Decides}
use Rattle.arithmetic.proofs.Deciding.{decides_both, decides_at_most}

-- from one number to another
pub decides_within : (a b x : ℕ) → Decides (leb a x && leb x b) ((a ≤ x) × (x ≤ b))
decides_within a b x = decides_both (a ≤ x) (x ≤ b) (leb a x) (leb x b) (decides_at_most a x) (decides_at_most x b)

-- six answers together, such as those for the six numbers of a row
abbrev pub AllSix : Type 0 → Type 0 → Type 0 → Type 0 → Type 0 → Type 0 → Type 0
AllSix P Q R S T U = ((((P × Q) × R) × S) × T) × U

abbrev pub all_six : Bool → Bool → Bool → Bool → Bool → Bool → Bool
all_six a b c d e f = ((((a && b) && c) && d) && e) && f

pub decides_six : (P Q R S T U : Type 0) (a b c d e f : Bool) → Decides a P → Decides b Q → Decides c R → Decides d S → Decides e T → Decides f U → Decides (all_six a b c d e f) (AllSix P Q R S T U)
decides_six P Q R S T U a b c d e f p q r s t u =
    decides_both ((((P × Q) × R) × S) × T) U ((((a && b) && c) && d) && e) f
    (decides_both (((P × Q) × R) × S) T (((a && b) && c) && d) e
    (decides_both ((P × Q) × R) S ((a && b) && c) d
    (decides_both (P × Q) R (a && b) c (decides_both P Q a b p q) r) s) t) u
