-- Whether a set is admitted, by how many wind and earthquake rows it has, is decided.
use Prim.Native.Nat.{ℕ}
use native.Mathlib.Decide.{dec_lt, ℕ_discrete, map_dec}
use Rattle.arithmetic.proofs.Cases.{both, either}
use Rattle.sets.specs.declared.Combination.{Combination}
use Rattle.sets.specs.declared.Combination.TheVariants.{I, II, III, IV}
use Rattle.sets.specs.steps.Deciding.{Together, Admits}

together_or_not : (combination : Combination) (winds earthquakes : ℕ) → Dec (Together combination winds earthquakes)
unfolding Together
together_or_not I winds earthquakes = both (ℕ_discrete winds 0) (ℕ_discrete earthquakes 0)
together_or_not II winds earthquakes = both (dec_lt 0 winds) (ℕ_discrete earthquakes 0)
together_or_not III winds earthquakes = both (ℕ_discrete winds 0) (dec_lt 0 earthquakes)
together_or_not IV winds earthquakes = either (ℕ_discrete winds 0) (ℕ_discrete earthquakes 0)

pub admits_or_not : (combination : Combination) (winds earthquakes set : ℕ) → Dec (Admits combination winds earthquakes set)
admits_or_not combination winds earthquakes set =
    map_dec (λ a. record { some = a.0; together = a.1 }) (λ a. (a.some, a.together)) (both (dec_lt 0 set) (together_or_not combination winds earthquakes))
