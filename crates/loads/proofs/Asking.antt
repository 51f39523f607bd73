-- What the rows passed were asked, with their loads, by what one row more is told.
use native.Mathlib.Omega.{arith}
use native.Mathlib.Numerals.{add-one}
use mathlib.Core.Path.{◌≡◌, refl, ◌∙◌, ap, subst, subst⁻¹}
use mathlib.Core.Logic.{◌⊎◌, ⊎_elim}
use mathlib.Core.List.{List, [], ◌∷◌, ◌++◌}
use Prim.Native.Nat.{ℕ, ◌+◌, ◌≤◌, ◌<◌}
use lib.ListN.{length, take, set, length-set}
use lib.Seq.{take-suc, take_all}
use Rattle.std.proofs.Common.{Option, None, Some, Ok, Err}
use Rattle.kinds.specs.declared.Row.{Row}
use Rattle.kinds.specs.declared.refusals.JobRefusal.{JobRefusal}
use Rattle.kinds.specs.classes.Classes.{class_of, optional}
use Rattle.earth.specs.coefficients.Coefficients.{Coefficient}
use Rattle.sets.specs.declared.Class.{Class}
use Rattle.sets.specs.declared.Class.TheVariants.{Permanent, Free, Wind, Earthquake}
use Rattle.sets.specs.declared.Load.{Load}
use Rattle.loads.specs.LoadRows.{optionals}
use Rattle.loads.specs.steps.Exerted.{RowWhen, LoadOf}
use Rattle.loads.specs.steps.Asking.{AnyRow, lowest, Lowest, unshown, least, ShownBy, AskedIs}
use Rattle.loads.proofs.FirstRows.{load_row, some_last, some_more, some_either, optionals_more}
use Rattle.loads.proofs.Refusing.{lowest_same, lowest_alone, lowest_either, lowest_some}
use Rattle.loads.proofs.Laying.{LaidFirst, laid_more, laid_all}

pub optional_low : (c : Class) → optional c ≤ 1
unfolding optional
optional_low Permanent = omega arith
optional_low Free = omega arith
optional_low Wind = omega arith
optional_low Earthquake = omega arith

module _ (fill : ℕ → ℕ → Coefficient) where
  shown_none : Lowest (ShownBy fill []) None
  unfolding AnyRow
  shown_none = unshown (λ n s. s)

  -- what the rows passed show, or one row more
  shown_more : (rows : List Row) (r : Row) {next : Option JobRefusal} → Lowest (λ n. ShownBy fill rows n ⊎ RowWhen fill r n) next → Lowest (ShownBy fill (rows ++ r ∷ [])) next
  shown_more rows r = lowest_same (λ n. ⊎_elim (some_more (λ row. RowWhen fill row n) rows r) (some_last (λ row. RowWhen fill row n) rows r)) (λ n. some_either (λ row. RowWhen fill row n) rows r)

-- the rows passed: what was asked of them, and, as long as none was refused, their loads
pub record RowsAsked (fill : ℕ → ℕ → Coefficient) (rows : List Row) (n : ℕ) (first : Option JobRefusal) (count : ℕ) (loads : List Load) : Type 0 where
  pub size : length loads ≡ 16
  pub told : Lowest (ShownBy fill (take n rows)) first
  pub optional : count ≡ optionals (take n rows)
  pub laid : first ≡ None → LaidFirst fill rows n loads

module _ (fill : ℕ → ℕ → Coefficient) (rows : List Row) where
  pub asked_none : {loads : List Load} → LaidFirst fill rows 0 loads → RowsAsked fill rows 0 None 0 loads
  unfolding LaidFirst optionals
  asked_none l = record { size = l.0; told = shown_none fill; optional = refl; laid = λ _. l }

  module _ (n : ℕ) (there : n < length rows) {first : Option JobRefusal} {count : ℕ} {loads : List Load} (p : RowsAsked fill rows n first count loads) where
    -- the rows passed with one row more
    more : take (n + 1) rows ≡ take n rows ++ load_row rows n ∷ []
    unfolding load_row
    more = rw add-one (take-suc rows n _ there)

    counted : count + optional (class_of (load_row rows n).kind) ≡ optionals (take (n + 1) rows)
    counted = rw (more, optionals_more (take n rows) (load_row rows n)) (ap (λ (m : ℕ). m + optional (class_of (load_row rows n).kind)) p.optional)

    pub asked_refused : (refusal : JobRefusal) → LoadOf fill (load_row rows n) (Err refusal)
        → RowsAsked fill rows (n + 1) (lowest first (Some refusal)) (count + optional (class_of (load_row rows n).kind)) loads
    unfolding LoadOf
    asked_refused refusal t =
        record {
          size = p.size;
          told = subst⁻¹ (λ (x : List Row). Lowest (ShownBy fill x) (lowest first (Some refusal))) more (shown_more fill (take n rows) (load_row rows n) (lowest_either p.told (least t)));
          optional = counted;
          laid = λ e. lowest_some first refusal e;
        }

    pub asked_load : (load : Load) → n < 16 → LoadOf fill (load_row rows n) (Ok load)
        → RowsAsked fill rows (n + 1) first (count + optional (class_of (load_row rows n).kind)) (set loads n load)
    unfolding LoadOf
    asked_load load h t =
        record {
          size = length-set loads n load ∙ p.size;
          told = subst⁻¹ (λ (x : List Row). Lowest (ShownBy fill x) first) more (shown_more fill (take n rows) (load_row rows n) (lowest_alone p.told t.0));
          optional = counted;
          laid = λ e. laid_more fill rows n loads h (p.laid e) t.1;
        }

  -- all of them were asked
  pub asked_all : length rows ≤ 16 → {first : Option JobRefusal} {count : ℕ} {loads : List Load} → RowsAsked fill rows (length rows) first count loads
      → AskedIs fill rows (record { first = first; optional = count; loads = record { count = length rows; loads = loads } })
  asked_all few {first} {count} p =
      let every : take (length rows) rows ≡ rows = take_all (length rows) rows (omega arith) in
      record {
        first = subst (λ (x : List Row). Lowest (ShownBy fill x) first) every p.told;
        optional = subst (λ (x : List Row). count ≡ optionals x) every p.optional;
        loads = λ e. laid_all fill rows _ few (p.laid e);
      }
