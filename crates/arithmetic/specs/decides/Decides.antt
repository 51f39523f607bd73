-- What a yes-or-no answer says.
use Rattle.std.specs.Prelude.{Bool, true, false}

-- the answer true says P, and false says that P does not hold
abbrev pub Decides : Bool → Type 0 → Type 0
Decides true P = P
Decides false P = P → ⊥
