-- Document 02, P5: "prove that at h = L-B both give the same forces and arms".
use Rattle.std.specs.Prelude.{◌≡◌, ℕ}
use Rattle.surcharge.specs.force.Force.{within, beyond, PartsAre}
use Rattle.surcharge.specs.declared.Parts.{Parts}

-- both cases give the same: as quotients, numerator and denominator, and rounded
pub record SameParts (T k B h L : ℕ) : Type 0 where
  pub unrounded : within T k B h ≡ beyond T k B h L
  pub rounded : (a b : Parts) → PartsAre L (within T k B h) a → PartsAre L (beyond T k B h L) b → a ≡ b
