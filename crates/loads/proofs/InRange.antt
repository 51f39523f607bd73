-- Load rows of which it is not so that a number is out of range are in range, each of them; and what an E row, a W row or a G row in range exerts
-- is what the whole row is told.
use mathlib.Core.Path.{◌≡◌, subst}
use mathlib.Core.List.{List, [], ◌∷◌}
use Prim.Native.Nat.{ℕ, ◌*◌}
use Rattle.kinds.specs.declared.Kind.{Kind}
use Rattle.kinds.specs.declared.Kind.TheVariants.{E, W, G}
use Rattle.kinds.specs.declared.Row.{Row}
use Rattle.kinds.specs.ranges.Range.{Ranged}
use Rattle.kinds.proofs.ranges.Ranges.{ranged_unless}
use Rattle.kinds.specs.classes.Classes.{source}
use Rattle.earth.specs.coefficients.Coefficients.{Coefficient}
use Rattle.earth.specs.Earth.{push}
use Rattle.earth.specs.EarthRow.{Pressed, in_range}
use Rattle.current.specs.Current as current
use Rattle.current.specs.CurrentRow as currents
use Rattle.surcharge.specs.Surcharge as surcharge
use Rattle.surcharge.specs.SurchargeRow as surcharges
use Rattle.surcharge.specs.declared.Parts.{Parts}
use Rattle.sets.specs.declared.Load.{Load}
use Rattle.loads.specs.LoadRows.{Every, AllRanged}
use Rattle.loads.specs.forces.Exerts.{PushLoad, PartsLoad, Forces, Exerts}

-- where it cannot be otherwise of one row than that it has P, it cannot be otherwise of all
pub all_unless : (P : Row → Type 0) → ((row : Row) → ((P row → ⊥) → ⊥) → P row) → (rows : List Row) → ((Every P rows → ⊥) → ⊥) → Every P rows
unfolding Every
all_unless P one [] n = tt
all_unless P one (row ∷ rows) n = (one row (λ h. n (λ all. h all.0)), all_unless P one rows (λ h. n (λ all. h all.1)))

pub all_ranged : (rows : List Row) → ((AllRanged rows → ⊥) → ⊥) → AllRanged rows
all_ranged = all_unless (λ row. Ranged row.kind row.numbers) (λ row. ranged_unless row.kind row.numbers)

-- where it cannot be otherwise than that no row has P, none has it
pub every_unless : (P : Row → Type 0) (rows : List Row) → ((Every (λ row. P row → ⊥) rows → ⊥) → ⊥) → Every (λ row. P row → ⊥) rows
every_unless P = all_unless (λ row. P row → ⊥) (λ row n p. n (λ h. h p))

-- an E row in range exerts what it is told as a whole row
pub earth_pressed : {fill : ℕ → ℕ → Coefficient} {row : Row} {load : Load} → row.kind ≡ E → Ranged row.kind row.numbers → Exerts fill row load
    → (H : ℕ) × (y : ℕ) × Pressed fill row.numbers (push H y) × PushLoad H (H * y) load
unfolding Forces source
earth_pressed {fill} {row} {load} e r x =
    let f = subst (λ (k : Kind). Forces fill (source k) row.numbers load) e x.forces in
    (f.H, f.y, in_range (subst (λ (k : Kind). Ranged k row.numbers) e r) f.pressed, f.exerts)

-- and so does a W row
pub current_pressed : {fill : ℕ → ℕ → Coefficient} {row : Row} {load : Load} → row.kind ≡ W → Ranged row.kind row.numbers → Exerts fill row load
    → (H : ℕ) × (y : ℕ) × currents.CurrentSays row.numbers (current.push H y) × PushLoad H (H * y) load
unfolding Forces source
current_pressed {fill} {row} {load} e r x =
    let f = subst (λ (k : Kind). Forces fill (source k) row.numbers load) e x.forces in
    (f.H, f.y, currents.in_range (subst (λ (k : Kind). Ranged k row.numbers) e r) f.rule, f.exerts)

-- and a G row
pub surcharge_pressed : {fill : ℕ → ℕ → Coefficient} {row : Row} {load : Load} → row.kind ≡ G → Ranged row.kind row.numbers → Exerts fill row load
    → (parts : Parts) × surcharges.SurchargeSays row.numbers (surcharge.pushes parts) × PartsLoad parts load
unfolding Forces source
surcharge_pressed {fill} {row} {load} e r x =
    let f = subst (λ (k : Kind). Forces fill (source k) row.numbers load) e x.forces in
    (f.parts, surcharges.in_range (subst (λ (k : Kind). Ranged k row.numbers) e r) f.rule, f.exerts)
