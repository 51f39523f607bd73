-- Document 01, Refusals of a job, and 02, P1, P3, P4 and P5: what 11 and 15 to 20 ask of the load rows of a job, and the loads that the rows exert.
use Rattle.std.specs.Prelude.{◌≡◌, List, [], ◌∷◌, ℕ, zero, suc, ◌+◌, length}
use Rattle.kinds.specs.declared.Kind.TheVariants.{LL}
use Rattle.kinds.specs.declared.Row.{Row}
use Rattle.kinds.specs.Table.{train}
use Rattle.kinds.specs.ranges.Range.{Ranged}
use Rattle.earth.specs.coefficients.Coefficients.{Coefficient}
use Rattle.sets.specs.declared.Load.{Load}
use Rattle.sets.specs.declared.Loads.{Loads}
use Rattle.sets.specs.Sets.{blank_load}
use Rattle.kinds.specs.classes.Classes.{class_of, optional}
use Rattle.loads.specs.forces.Blank.{BlankThere}
use Rattle.loads.specs.forces.Wetted.{UpperBelowLower}
use Rattle.loads.specs.forces.Laden.{LengthNotAbove, SoilTypeE}
use Rattle.loads.specs.forces.Exerts.{Exerts}

-- P holds of every row
unfoldable pub Every : (Row → Type 0) → List Row → Type 0
Every P [] = Unit {0}
Every P (row ∷ rows) = P row × Every P rows

-- what 11 asks: no number is out of range
abbrev pub AllRanged : List Row → Type 0
AllRanged rows = Every (λ row. Ranged row.kind row.numbers) rows

-- what 15 asks: for no E row "neither book has a value"
abbrev pub NoneBlank : (ℕ → ℕ → Coefficient) → List Row → Type 0
NoneBlank fill rows = Every (λ row. BlankThere fill row → ⊥) rows

-- what 16 counts: the optional load rows
unfoldable pub optionals : List Row → ℕ
optionals [] = 0
optionals (row ∷ rows) = optional (class_of row.kind) + optionals rows

-- what 17 asks: in no W row upper is below lower
abbrev pub AllUpright : List Row → Type 0
AllUpright rows = Every (λ row. UpperBelowLower row → ⊥) rows

-- an LL row stands at this place, from 0
unfoldable pub LiveAt : List Row → ℕ → Type 0
LiveAt [] i = ⊥
LiveAt (row ∷ rows) zero = row.kind ≡ LL
LiveAt (row ∷ rows) (suc i) = LiveAt rows i

-- the row named by its position, from 1, is there and is LL; 0 names no row
unfoldable pub NamesLive : List Row → ℕ → Type 0
NamesLive rows zero = Unit {0}
NamesLive rows (suc i) = LiveAt rows i

-- what 18 asks: of no LF or CF row "the row named is missing or is not LL"
abbrev pub AllNamed : List Row → Type 0
AllNamed rows = Every (λ row. NamesLive rows (train row.kind row.numbers)) rows

-- what 19 asks: in no G row the length is not above B
abbrev pub AllAbove : List Row → Type 0
AllAbove rows = Every (λ row. LengthNotAbove row → ⊥) rows

-- what 20 asks: in no G row the soil is of type e
abbrev pub NoTypeE : List Row → Type 0
NoTypeE rows = Every (λ row. SoilTypeE row → ⊥) rows

-- each row exerts the load in its place, and past the last row there stands no load
unfoldable pub Laid : (ℕ → ℕ → Coefficient) → List Row → List Load → Type 0
Laid fill [] [] = Unit {0}
Laid fill [] (load ∷ loads) = (load ≡ blank_load) × Laid fill [] loads
Laid fill (row ∷ rows) [] = ⊥
Laid fill (row ∷ rows) (load ∷ loads) = Exerts fill row load × Laid fill rows loads

-- the loads of the rows, and no others, in the 16 places that there are
pub record AreLoads (fill : ℕ → ℕ → Coefficient) (rows : List Row) (loads : Loads) : Type 0 where
  pub count : loads.count ≡ length rows
  pub places : length loads.loads ≡ 16
  pub laid : Laid fill rows loads.loads
