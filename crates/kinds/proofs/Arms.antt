-- An arm of several kinds: the answer that each of them has is that of the kind that comes to the arm, known by its place among the kinds.
use Prim.Native.Nat.{ℕ}
use mathlib.Core.Path.{◌≡◌, refl, sym, ap, ◌∙◌}
use mathlib.Core.Logic.{⊎_elim}
use mathlib.Core.List.{List, [], ◌∷◌, map}
use lib.Dec.{eqb}
use lib.ListN.{get_or}
use types.Run.{OneOf}
use denote.Enum.Declared.{tag_of}
use Rattle.arithmetic.specs.decides.Decides.{Decides}
use Rattle.arithmetic.proofs.Deciding.{decides_same, decides_equal}
use Rattle.kinds.specs.declared.Kind.{Kind}
use Rattle.kinds.specs.declared.Kind.TheVariants.{B, S, C, E, W, G, DL, EP, LL, LF, CF, WC, BU, TM, EX, WL, SF}
use Rattle.kinds.specs.contracts.Kind.{the_type}

abbrev kind_at : ℕ → Kind
kind_at n = get_or (B ∷ S ∷ C ∷ E ∷ W ∷ G ∷ DL ∷ EP ∷ LL ∷ LF ∷ CF ∷ WC ∷ BU ∷ TM ∷ EX ∷ WL ∷ SF ∷ []) n B

at_place : (k : Kind) → kind_at (tag_of the_type k) ≡ k
at_place B = refl
at_place S = refl
at_place C = refl
at_place E = refl
at_place W = refl
at_place G = refl
at_place DL = refl
at_place EP = refl
at_place LL = refl
at_place LF = refl
at_place CF = refl
at_place WC = refl
at_place BU = refl
at_place TM = refl
at_place EX = refl
at_place WL = refl
at_place SF = refl

one_place : (j k : Kind) → tag_of the_type k ≡ tag_of the_type j → j ≡ k
one_place j k e = sym (at_place j) ∙ ap kind_at (sym e) ∙ at_place k

-- whether a kind is another, by its place
pub kind_decides : (j k : Kind) → Decides (eqb (tag_of the_type k) (tag_of the_type j)) (k ≡ j)
kind_decides j k =
    decides_same (eqb (tag_of the_type k) (tag_of the_type j)) (λ e. sym (one_place j k e)) (ap (tag_of the_type)) (decides_equal (tag_of the_type k) (tag_of the_type j))

pub kind_arm : {A : Type 0} (answer : Kind → A) (a : A) (js : List Kind) (k : Kind) → map answer js ≡ map (λ _. a) js → OneOf (map (tag_of the_type) js) (tag_of the_type k) → a ≡ answer k
kind_arm answer a [] k all h = absurd h
kind_arm answer a (j ∷ []) k all h = let e = one_place j k h in cc
kind_arm answer a (i ∷ j ∷ js) k all h = ⊎_elim (λ e. let q = one_place i k e in cc) (kind_arm answer a (j ∷ js) k cc) h
