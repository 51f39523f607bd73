-- What a row is told by where its forces come from, and what it exerts: by the push of an E, of a W and of a G row, or by its own numbers.
use mathlib.Core.Path.{◌≡◌, refl, sym, ◌∙◌, subst, subst⁻¹}
use mathlib.Core.Bool.{Bool, true, false}
use Prim.Native.Nat.{ℕ, ◌*◌, ◌≤◌}
use native.Mathlib.Omega.{arith}
use Rattle.arithmetic.specs.rounding.Least.{Least}
use Rattle.arithmetic.proofs.Cases.{impossible}
use Rattle.fields.specs.declared.Entry.{Entry}
use Rattle.kinds.specs.declared.Kind.{Kind}
use Rattle.kinds.specs.declared.Kind.TheVariants.{E, W, G}
use Rattle.kinds.specs.declared.Numbers.{Numbers}
use Rattle.kinds.specs.declared.Row.{Row}
use Rattle.kinds.specs.Table.{load_columns, phase, train}
use Rattle.kinds.specs.declared.Column.TheVariants.{Empty}
use Rattle.kinds.specs.ranges.Range.{Around, InColumns, Ranged}
use Rattle.kinds.proofs.classes.Sources.{kind_by}
use Rattle.earth.specs.coefficients.Coefficients.{Coefficient}
use Rattle.earth.specs.Earth.{refused, push, blank}
use Rattle.earth.specs.EarthRow.{Pressed, out_of_range, in_range}
use Rattle.earth.proofs.Pressures.{pushed_one}
use Rattle.current.specs.Current as current
use Rattle.current.specs.CurrentRow as currents
use Rattle.current.proofs.Currents.{rule_one}
use Rattle.surcharge.specs.Surcharge as surcharge
use Rattle.surcharge.specs.SurchargeRow as surcharges
use Rattle.surcharge.specs.declared.Parts.{Parts}
use Rattle.surcharge.proofs.Surcharges.{rule_pushes}
use Rattle.sets.specs.declared.Load.{Load}
use Rattle.kinds.specs.declared.classes.Source.{Source}
use Rattle.kinds.specs.declared.classes.Source.TheVariants.{Absent, Earth, Current, Surcharge, Own}
use Rattle.kinds.specs.classes.Classes.{class_of, source}
use Rattle.loads.specs.forces.Blank.{BlankThere}
use Rattle.loads.specs.forces.Wetted.{UpperBelowLower}
use Rattle.loads.specs.forces.Laden.{LengthNotAbove, SoilTypeE}
use Rattle.loads.specs.steps.Exerted.{Belongs, LoadOf}
use Rattle.loads.specs.steps.Exerted as rows
use Rattle.std.proofs.Common.{Result, Ok}
use Rattle.std.specs.Result.{IsErrAnd}
use Rattle.std.proofs.lemmas.Result.{err_from_is_err_and}
use Rattle.kinds.specs.declared.refusals.JobRefusal.{JobRefusal}
use Rattle.kinds.specs.refusals.Refusals.{refusal_number}
use Rattle.sets.specs.declared.Class.{Class}
use Rattle.loads.specs.forces.Exerts.{OwnForces, PushLoad, PartsLoad, NoForces, Forces, Exerts}

-- a row in the range of its kind is in that of the kind which its source tells, and the other way round
pub ranged_as : {j k : Kind} (n : Numbers) → j ≡ k → Ranged j n → Ranged k n
ranged_as n e = subst (λ (k : Kind). Ranged k n) e

pub own_columns : (k : Kind) (n : Numbers) → source k ≡ Own → Ranged k n → InColumns (load_columns Empty) n
own_columns k n e = kind_by k Own e n

pub around_size : (a : ℕ) (e : Entry) → Around a a e → e.size ≤ a
around_size a e h = go e.minus refl
  where
    go : (m : Bool) → e.minus ≡ m → e.size ≤ a
    go true d = h.under d
    go false d = h.over d

-- ---- what a load row is told: by the push of its fill, of the current or of its surcharge, or by its own numbers
module _ (fill : ℕ → ℕ → Coefficient) (row : Row) where
  -- a load of the row's class, phase and train
  abbrev pub Kept : Load → Type 0
  Kept load = Belongs (record { class = class_of row.kind; phase = phase row.kind row.numbers; train = train row.kind row.numbers }) load

  pub kept : {class : Class} {p t : ℕ} {load : Load} → Belongs (record { class = class; phase = p; train = t }) load → class ≡ class_of row.kind → p ≡ phase row.kind row.numbers → t ≡ train row.kind row.numbers → Kept load
  kept b e p t = record { class = b.class ∙ e; phase = b.phase ∙ p; train = b.train ∙ t }

  -- a refusal that is handed on, by what it is turned into
  pub handed_on : {Q : JobRefusal → Type 0} (r : Result Load JobRefusal) → IsErrAnd r Q → ((refusal : JobRefusal) → Q refusal → Least (rows.RowWhen fill row) (refusal_number refusal)) → LoadOf fill row r
  unfolding LoadOf
  handed_on r h f = let p = err_from_is_err_and r h in rw p.1 (f p.0 p.2)

  exerted : {s : Source} → source row.kind ≡ s → (load : Load) → Kept load → Forces fill s row.numbers load → Exerts fill row load
  exerted is load k f = record { class = k.class; phase = k.phase; train = k.train; forces = subst⁻¹ (λ (s : Source). Forces fill s row.numbers load) is f }

  -- 11 is the lowest of a row's numbers
  pub told_out : (Ranged row.kind row.numbers → ⊥) → Least (rows.RowWhen fill row) 11
  told_out h = record { holds = rows.out_of_range h; least = lowest }
    where
      lowest : (n : ℕ) → rows.RowWhen fill row n → 11 ≤ n
      lowest n (rows.out_of_range x) = omega arith
      lowest n (rows.blank x) = omega arith
      lowest n (rows.upper_below_lower x) = omega arith
      lowest n (rows.not_above x) = omega arith
      lowest n (rows.type_e x) = omega arith

  module _ (is : source row.kind ≡ Earth) where
    pub earth_kind : row.kind ≡ E
    earth_kind = kind_by row.kind Earth is

    pub earth_refused : {n : ℕ} → Pressed fill row.numbers (refused n) → Least (rows.RowWhen fill row) n
    unfolding BlankThere
    earth_refused (out_of_range h) = told_out (λ r. h (ranged_as row.numbers earth_kind r))
    earth_refused (in_range r (blank b)) = record { holds = rows.blank (is, blank b); least = lowest }
      where
        lowest : (n : ℕ) → rows.RowWhen fill row n → 15 ≤ n
        lowest n (rows.out_of_range x) = absurd (x (ranged_as row.numbers (sym earth_kind) r))
        lowest n (rows.blank x) = omega arith
        lowest n (rows.upper_below_lower x) = omega arith
        lowest n (rows.not_above x) = omega arith
        lowest n (rows.type_e x) = omega arith

    pub earth_pushed : {H y : ℕ} (load : Load) → Pressed fill row.numbers (push H y) → Kept load → PushLoad H (H * y) load → LoadOf fill row (Ok load)
    unfolding LoadOf BlankThere UpperBelowLower LengthNotAbove SoilTypeE Forces
    earth_pushed {H} {y} load (in_range r p) k f = (none, exerted is load k (record { H = H; y = y; pressed = p; exerts = f }))
      where
        none : (n : ℕ) → rows.RowWhen fill row n → ⊥
        none n (rows.out_of_range x) = x (ranged_as row.numbers (sym earth_kind) r)
        none n (rows.blank x) = let e = pushed_one p x.1 in impossible cc
        none n (rows.upper_below_lower x) = let e = sym is ∙ x.0 in impossible cc
        none n (rows.not_above x) = let e = sym is ∙ x.0 in impossible cc
        none n (rows.type_e x) = let e = sym is ∙ x.0 in impossible cc

  module _ (is : source row.kind ≡ Current) where
    pub current_kind : row.kind ≡ W
    current_kind = kind_by row.kind Current is

    pub current_refused : {n : ℕ} → currents.CurrentSays row.numbers (current.refused n) → Least (rows.RowWhen fill row) n
    unfolding BlankThere UpperBelowLower
    current_refused (currents.out_of_range h) = told_out (λ r. h (ranged_as row.numbers current_kind r))
    current_refused (currents.in_range r (current.upper_below_lower l)) =
        record { holds = rows.upper_below_lower (is, current.upper_below_lower l); least = lowest }
      where
        lowest : (n : ℕ) → rows.RowWhen fill row n → 17 ≤ n
        lowest n (rows.out_of_range x) = absurd (x (ranged_as row.numbers (sym current_kind) r))
        lowest n (rows.blank x) = let e = sym is ∙ x.0 in impossible cc
        lowest n (rows.upper_below_lower x) = omega arith
        lowest n (rows.not_above x) = omega arith
        lowest n (rows.type_e x) = omega arith

    pub current_pushed : {H y : ℕ} (load : Load) → currents.CurrentSays row.numbers (current.push H y) → Kept load → PushLoad H (H * y) load → LoadOf fill row (Ok load)
    unfolding LoadOf BlankThere UpperBelowLower LengthNotAbove SoilTypeE Forces
    current_pushed {H} {y} load (currents.in_range r p) k f = (none, exerted is load k (record { H = H; y = y; rule = p; exerts = f }))
      where
        none : (n : ℕ) → rows.RowWhen fill row n → ⊥
        none n (rows.out_of_range x) = x (ranged_as row.numbers (sym current_kind) r)
        none n (rows.blank x) = let e = sym is ∙ x.0 in impossible cc
        none n (rows.upper_below_lower x) = let e = rule_one p x.1 in impossible cc
        none n (rows.not_above x) = let e = sym is ∙ x.0 in impossible cc
        none n (rows.type_e x) = let e = sym is ∙ x.0 in impossible cc

  module _ (is : source row.kind ≡ Surcharge) where
    pub surcharge_kind : row.kind ≡ G
    surcharge_kind = kind_by row.kind Surcharge is

    pub surcharge_refused : {n : ℕ} → surcharges.SurchargeSays row.numbers (surcharge.refused n) → Least (rows.RowWhen fill row) n
    unfolding BlankThere UpperBelowLower LengthNotAbove SoilTypeE
    surcharge_refused (surcharges.out_of_range h) = told_out (λ r. h (ranged_as row.numbers surcharge_kind r))
    surcharge_refused (surcharges.in_range r (surcharge.not_above a)) = record { holds = rows.not_above (is, a); least = lowest }
      where
        lowest : (n : ℕ) → rows.RowWhen fill row n → 19 ≤ n
        lowest n (rows.out_of_range x) = absurd (x (ranged_as row.numbers (sym surcharge_kind) r))
        lowest n (rows.blank x) = let e = sym is ∙ x.0 in impossible cc
        lowest n (rows.upper_below_lower x) = let e = sym is ∙ x.0 in impossible cc
        lowest n (rows.not_above x) = omega arith
        lowest n (rows.type_e x) = omega arith
    surcharge_refused (surcharges.in_range r (surcharge.type_e a s)) = record { holds = rows.type_e (is, s); least = lowest }
      where
        lowest : (n : ℕ) → rows.RowWhen fill row n → 20 ≤ n
        lowest n (rows.out_of_range x) = absurd (x (ranged_as row.numbers (sym surcharge_kind) r))
        lowest n (rows.blank x) = let e = sym is ∙ x.0 in impossible cc
        lowest n (rows.upper_below_lower x) = let e = sym is ∙ x.0 in impossible cc
        lowest n (rows.not_above x) = absurd (omega (arith, x.1))
        lowest n (rows.type_e x) = omega arith

    pub surcharge_pushed : {parts : Parts} (load : Load) → surcharges.SurchargeSays row.numbers (surcharge.pushes parts) → Kept load → PartsLoad parts load → LoadOf fill row (Ok load)
    unfolding LoadOf BlankThere UpperBelowLower LengthNotAbove SoilTypeE Forces
    surcharge_pushed {parts} load (surcharges.in_range r p) k f = (none, exerted is load k (record { parts = parts; rule = p; exerts = f }))
      where
        none : (n : ℕ) → rows.RowWhen fill row n → ⊥
        none n (rows.out_of_range x) = x (ranged_as row.numbers (sym surcharge_kind) r)
        none n (rows.blank x) = let e = sym is ∙ x.0 in impossible cc
        none n (rows.upper_below_lower x) = let e = sym is ∙ x.0 in impossible cc
        none n (rows.not_above x) = (rule_pushes p refl).0 x.1
        none n (rows.type_e x) = (rule_pushes p refl).1 x.1

  module _ {s : Source} (is : source row.kind ≡ s) (not_earth : s ≡ Earth → ⊥) (not_current : s ≡ Current → ⊥) (not_surcharge : s ≡ Surcharge → ⊥) (r : Ranged row.kind row.numbers) where
    told_load : (load : Load) → Kept load → Forces fill s row.numbers load → LoadOf fill row (Ok load)
    unfolding LoadOf BlankThere UpperBelowLower LengthNotAbove SoilTypeE
    told_load load k f = (none, exerted is load k f)
      where
        none : (n : ℕ) → rows.RowWhen fill row n → ⊥
        none n (rows.out_of_range x) = x r
        none n (rows.blank x) = not_earth (sym is ∙ x.0)
        none n (rows.upper_below_lower x) = not_current (sym is ∙ x.0)
        none n (rows.not_above x) = not_surcharge (sym is ∙ x.0)
        none n (rows.type_e x) = not_surcharge (sym is ∙ x.0)

  pub absent_pushed : source row.kind ≡ Absent → Ranged row.kind row.numbers → (load : Load) → Kept load → NoForces load → LoadOf fill row (Ok load)
  unfolding Forces
  absent_pushed is r load k f = told_load is (λ e. impossible cc) (λ e. impossible cc) (λ e. impossible cc) r load k f

  pub own_exerted : source row.kind ≡ Own → Ranged row.kind row.numbers → (load : Load) → Kept load → OwnForces row.numbers load → LoadOf fill row (Ok load)
  unfolding Forces
  own_exerted is r load k f = told_load is (λ e. impossible cc) (λ e. impossible cc) (λ e. impossible cc) r load k f

-- loads are the same if their parts are
pub same_load : {a b : Load} → a.class ≡ b.class → a.phase ≡ b.phase → a.train ≡ b.train → a.v ≡ b.v → a.x ≡ b.x → a.h ≡ b.h → a.twist ≡ b.twist → a ≡ b
same_load p q r s t u w = λ i. record { class = p i; phase = q i; train = r i; v = s i; x = t i; h = u i; twist = w i }
