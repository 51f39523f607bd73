-- An arm of several variants: what each of them has, the one that comes to the arm has, known by its place among them all.
use Prim.Native.Nat.{ℕ}
use mathlib.Core.Path.{◌≡◌, refl, sym, ap, ◌∙◌, subst}
use mathlib.Core.Logic.{⊎_elim}
use mathlib.Core.List.{List, [], ◌∷◌, map}
use lib.ListN.{get_or}
use types.Run.{OneOf}
use denote.Enum.Declared.{tag_of}
use Rattle.sets.specs.declared.Class.{Class}
use Rattle.sets.specs.declared.Class.TheVariants.{Permanent, Free, Wind, Earthquake}
use Rattle.sets.specs.declared.Combination.{Combination}
use Rattle.sets.specs.declared.Combination.TheVariants.{I, II, III, IV}
use Rattle.sets.specs.contracts.Class as classes
use Rattle.sets.specs.contracts.Combination as combinations

-- all of the list have P
abbrev pub AllOf : {A : Type 0} → (A → Type 0) → List A → Type 0
AllOf P [] = Unit {0}
AllOf P (j ∷ []) = P j
AllOf P (i ∷ j ∷ js) = P i × AllOf P (j ∷ js)

-- where `at` gives the variant at each place
module _ {A : Type 0} (place : A → ℕ) (at : ℕ → A) (at_place : (k : A) → at (place k) ≡ k) (P : A → Type 0) where
  here : (j k : A) → P j → place k ≡ place j → P k
  here j k p e = subst P (sym (at_place j) ∙ ap at (sym e) ∙ at_place k) p

  pub variant_arm : (js : List A) (k : A) → AllOf P js → OneOf (map place js) (place k) → P k
  variant_arm [] k all h = absurd h
  variant_arm (j ∷ []) k all h = here j k all h
  variant_arm (i ∷ j ∷ js) k all h = ⊎_elim (here i k all.0) (variant_arm (j ∷ js) k all.1) h

combination_at : (k : Combination) → get_or (I ∷ II ∷ III ∷ IV ∷ []) (tag_of combinations.the_type k) I ≡ k
combination_at I = refl
combination_at II = refl
combination_at III = refl
combination_at IV = refl

pub combination_arm : (P : Combination → Type 0) (js : List Combination) (k : Combination) → AllOf P js → OneOf (map (tag_of combinations.the_type) js) (tag_of combinations.the_type k) → P k
combination_arm = variant_arm (tag_of combinations.the_type) (λ n. get_or (I ∷ II ∷ III ∷ IV ∷ []) n I) combination_at

class_at : (k : Class) → get_or (Permanent ∷ Free ∷ Wind ∷ Earthquake ∷ []) (tag_of classes.the_type k) Permanent ≡ k
class_at Permanent = refl
class_at Free = refl
class_at Wind = refl
class_at Earthquake = refl

pub class_arm : (P : Class → Type 0) (js : List Class) (k : Class) → AllOf P js → OneOf (map (tag_of classes.the_type) js) (tag_of classes.the_type k) → P k
class_arm = variant_arm (tag_of classes.the_type) (λ n. get_or (Permanent ∷ Free ∷ Wind ∷ Earthquake ∷ []) n Permanent) class_at
