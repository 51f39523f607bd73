-- `is_finite` meets its contract: of each kind of double both comparisons compute, since one over zero computes to the infinity above zero.
use mathlib.Core.Path.{◌≡◌, refl}
use mathlib.Core.Bool.{Bool, true, false}
use Prim.Native.Nat.{ℕ}
use lib.IntN.{ℤ}
use lib.Ieee.{Float, nan, inf, fin, of_bits, div, neg, lt}
use Rattle.doubles.proofs.is_finite.Goals as goal

kinds : {P : Type 0} (x : Float) → (x ≡ nan → P) → (x ≡ inf true → P) → (x ≡ inf false → P) → ((s : Bool) (m : ℕ) (e : ℤ) → x ≡ fin s m e → P) → P
kinds nan none below above number = none refl
kinds (inf true) none below above number = below refl
kinds (inf false) none below above number = above refl
kinds (fin s m e) none below above number = number s m e refl

pub returns : goal.returns
unfolding of_bits div neg lt
returns c = kinds c.args.x (λ e. rw e (λ f. f)) (λ e. rw e (λ f. f)) (λ e. rw e (λ f. f)) (λ s m k e. rw e tt)
