-- What a row in range is told decides whether it shows a refusal, since it is told one thing.
use mathlib.Core.Path.{◌≡◌, refl, sym, subst, ap}
use mathlib.Core.Bool.{Bool, ◌&&◌}
use Prim.Native.Nat.{ℕ, ◌<◌}
use lib.Dec.{eqb}
use Rattle.arithmetic.specs.decides.Decides.{Decides}
use Rattle.arithmetic.proofs.Deciding.{decides_same, decides_both, decides_equal}
use Rattle.arithmetic.proofs.Cases.{impossible, unlike}
use Rattle.kinds.specs.declared.Kind.TheVariants.{E, S, C, W, G}
use Rattle.kinds.specs.declared.Numbers.{Numbers}
use Rattle.kinds.specs.declared.Row.{Row}
use Rattle.kinds.specs.ranges.Range.{Ranged}
use Rattle.kinds.specs.declared.classes.Source.TheVariants.{Earth, Current, Surcharge}
use Rattle.kinds.specs.classes.Classes.{source}
use Rattle.kinds.proofs.classes.Sources.{kind_by}
use Rattle.jobs.specs.declared.Job.{Job}
use Rattle.jobs.specs.declared.stages.Stage.{Stage}
use Rattle.jobs.specs.stages.Rows.{HasScour}
use Rattle.earth.specs.coefficients.Coefficients.{Coefficient}
use Rattle.earth.specs.Earth as earth
use Rattle.earth.specs.EarthRow as earths
use Rattle.earth.proofs.Pressures.{pushed_one}
use Rattle.scour.specs.declared.Waterway.{Waterway}
use Rattle.scour.specs.Scour as scour
use Rattle.scour.specs.ScourRow as scours
use Rattle.scour.proofs.Scours.{scour_rule_one}
use Rattle.clearance.specs.Clear as clearance
use Rattle.clearance.specs.declared.Opening.{Opening}
use Rattle.current.specs.Current as current
use Rattle.current.specs.declared.Shaft.{Shaft}
use Rattle.surcharge.specs.Surcharge.{abutment_in, NotAbove, TypeE}
use Rattle.loads.specs.forces.Blank.{BlankThere}
use Rattle.loads.specs.forces.Wetted.{UpperBelowLower}
use Rattle.loads.specs.forces.Laden.{LengthNotAbove, SoilTypeE}
use Rattle.answer.specs.river.River.{ScourGives, ClearanceGives}
use Rattle.job_faults.specs.rules.steps.Tests.{Gives, Obstructed}

-- ---- an S row
no_eleven : {row : Waterway} {t : scour.ScourTold} → scour.ScourRule row t → t ≡ scour.refused 11 → ⊥
no_eleven (scour.large_catchment h) e = unlike 12 11 refl cc
no_eleven (scour.too_intense a h) e = unlike 13 11 refl cc
no_eleven (scour.needed l n) e = impossible cc

pub scour_out : {row : Numbers} {t : scour.ScourTold} → scours.ScourSays row t → t ≡ scour.refused 11 → Ranged S row → ⊥
scour_out (scours.out_of_range h) e r = h r
scour_out (scours.in_range q s) e r = no_eleven s e

in_rule : {row : Numbers} {t : scour.ScourTold} → scours.ScourSays row t → (t ≡ scour.refused 11 → ⊥) → scour.ScourRule (scour.waterway_in row) t
in_rule (scours.out_of_range h) n = absurd (n refl)
in_rule (scours.in_range r s) n = s

refused_one : {m n : ℕ} → scour.refused m ≡ scour.refused n → m ≡ n
refused_one e = cc

module _ (stage : Stage) (row : Numbers) (number : ℕ) where
  -- it gives the number that it is told, and no other
  pub gives_told : (k : ℕ) → (k ≡ 11 → ⊥) → HasScour stage → scours.ScourSays row (scour.refused k) → Decides (eqb number k) (Gives stage row number)
  gives_told k n has says =
      let rule = in_rule says (λ e. n (refused_one e)) in
      decides_same {P = number ≡ k} {Q = Gives stage row number} (eqb number k)
      (λ e. record { has = has; says = subst (λ (m : ℕ). scour.ScourRule (scour.waterway_in row) (scour.refused m)) (sym e) rule }) (λ g. refused_one (scour_rule_one g.says rule)) (decides_equal number k)

  -- and none where it needs a depth
  pub gives_none : (depth : ℕ) (exact : Bool) → scours.ScourSays row (scour.needs depth exact) → Gives stage row number → ⊥
  gives_none depth exact says g = let e = scour_rule_one g.says (in_rule says (λ q. impossible cc)) in impossible cc

module _ (job : Job) (row : Row) where
  pub scour_shows : (n : ℕ) (r t : Bool) → Decides r (row.kind ≡ S) → Decides t (Gives job.stage job.scour n) → Decides (r && t) ((row.kind ≡ S) × ScourGives job (scour.refused n))
  scour_shows n r t d e =
      decides_same {P = (row.kind ≡ S) × Gives job.stage job.scour n} {Q = (row.kind ≡ S) × ScourGives job (scour.refused n)} (r && t)
      (λ w. (w.0, record { has = w.1.has; rule = w.1.says })) (λ w. (w.0, record { has = w.1.has; says = w.1.rule })) (decides_both (row.kind ≡ S) (Gives job.stage job.scour n) r t d e)

  over : {row : Opening} {Q : ℕ} {t : clearance.ClearanceTold} → clearance.Cleared row Q t → t ≡ clearance.refused 14 → row.area < row.obstructed
  over (clearance.over_obstructed h) e = h
  over (clearance.clear h l d m) e = impossible cc

  pub clearance_shows : (r t : Bool) → Decides r (row.kind ≡ C) → Decides t (Obstructed job.stage job.clearance) → Decides (r && t) ((row.kind ≡ C) × ClearanceGives job (clearance.refused 14))
  clearance_shows r t d e =
      decides_same {P = (row.kind ≡ C) × Obstructed job.stage job.clearance} {Q = (row.kind ≡ C) × ClearanceGives job (clearance.refused 14)} (r && t)
      (λ w. (w.0, record { has = w.1.has; rule = clearance.over_obstructed w.1.above })) (λ w. (w.0, record { has = w.1.has; above = over w.1.rule refl }))
      (decides_both (row.kind ≡ C) (Obstructed job.stage job.clearance) r t d e)

-- ---- an E row
module _ {fill : ℕ → ℕ → Coefficient} {row : Numbers} where
  pub blank_told : {t : earth.EarthTold} → earths.Pressed fill row t → t ≡ earth.refused 15 → earth.Pushed fill (earth.backfill_in row) t
  blank_told (earths.out_of_range h) e = unlike 11 15 refl cc
  blank_told (earths.in_range r s) e = s

  pub blank_else : {t : earth.EarthTold} → earths.Pressed fill row t → (t ≡ earth.refused 15 → ⊥) → Ranged E row → earth.Pushed fill (earth.backfill_in row) (earth.refused 15) → ⊥
  blank_else (earths.out_of_range h) n r p = h r
  blank_else (earths.in_range q s) n r p = n (pushed_one s p)

module _ (fill : ℕ → ℕ → Coefficient) (row : Row) where
  pub blank_shows : (r : Bool) → row.kind ≡ E → Decides r (earth.Pushed fill (earth.backfill_in row.numbers) (earth.refused 15)) → Decides r (BlankThere fill row)
  unfolding BlankThere source
  blank_shows r k d = decides_same r (λ p. (ap source k, p)) (λ w. w.1) d

  pub blank_not : (row.kind ≡ E → ⊥) → BlankThere fill row → ⊥
  unfolding BlankThere
  blank_not n w = n (kind_by row.kind Earth w.0)

-- ---- a W row and a G row
module _ (row : Row) (r t : Bool) where
  below : {s : Shaft} {t : current.CurrentTold} → current.CurrentRule s t → t ≡ current.refused 17 → s.upper < s.lower
  below (current.upper_below_lower h) e = h
  below (current.pushes l h y) e = impossible cc

  pub below_shows : Decides r (row.kind ≡ W) → Decides t ((current.shaft_in row.numbers).upper < (current.shaft_in row.numbers).lower) → Decides (r && t) (UpperBelowLower row)
  unfolding UpperBelowLower source
  below_shows d e =
      decides_same (r && t) (λ w. (ap source w.0, current.upper_below_lower w.1)) (λ w. (kind_by row.kind Current w.0, below w.1 refl))
      (decides_both (row.kind ≡ W) ((current.shaft_in row.numbers).upper < (current.shaft_in row.numbers).lower) r t d e)

  pub above_shows : Decides r (row.kind ≡ G) → Decides t (NotAbove (abutment_in row.numbers)) → Decides (r && t) (LengthNotAbove row)
  unfolding LengthNotAbove source
  above_shows d e =
      decides_same (r && t) (λ w. (ap source w.0, w.1)) (λ w. (kind_by row.kind Surcharge w.0, w.1)) (decides_both (row.kind ≡ G) (NotAbove (abutment_in row.numbers)) r t d e)

  pub type_shows : Decides r (row.kind ≡ G) → Decides t (TypeE (abutment_in row.numbers)) → Decides (r && t) (SoilTypeE row)
  unfolding SoilTypeE source
  type_shows d e =
      decides_same (r && t) (λ w. (ap source w.0, w.1)) (λ w. (kind_by row.kind Surcharge w.0, w.1)) (decides_both (row.kind ≡ G) (TypeE (abutment_in row.numbers)) r t d e)

-- a row of another kind shows none of these
module _ (row : Row) where
  pub below_not : (row.kind ≡ W → ⊥) → UpperBelowLower row → ⊥
  unfolding UpperBelowLower
  below_not n w = n (kind_by row.kind Current w.0)

  pub above_not : (row.kind ≡ G → ⊥) → LengthNotAbove row → ⊥
  unfolding LengthNotAbove
  above_not n w = n (kind_by row.kind Surcharge w.0)

  pub type_not : (row.kind ≡ G → ⊥) → SoilTypeE row → ⊥
  unfolding SoilTypeE
  type_not n w = n (kind_by row.kind Surcharge w.0)
