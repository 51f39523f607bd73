-- What the role of a row says of its kind: B, S and C have a role each.
use mathlib.Core.Path.{◌≡◌, refl, subst}
use Rattle.kinds.specs.Table.{role}
use Rattle.kinds.specs.declared.Kind.{Kind}
use Rattle.kinds.specs.declared.Kind.TheVariants.{B, S, C, E, W, G, DL, EP, LL, LF, CF, WC, BU, TM, EX, WL, SF}
use Rattle.kinds.specs.declared.Role.{Role}
use Rattle.kinds.specs.declared.Role.TheVariants.{Base, Scour, Clearance, Load}

abbrev pub OfRole : Role → Kind → Type 0
OfRole Base k = k ≡ B
OfRole Scour k = k ≡ S
OfRole Clearance k = k ≡ C
OfRole Load k = Unit {0}

of_role : (k : Kind) → OfRole (role k) k
of_role B = refl
of_role S = refl
of_role C = refl
of_role E = tt
of_role W = tt
of_role G = tt
of_role DL = tt
of_role EP = tt
of_role LL = tt
of_role LF = tt
of_role CF = tt
of_role WC = tt
of_role BU = tt
of_role TM = tt
of_role EX = tt
of_role WL = tt
of_role SF = tt

pub kind_by : (k : Kind) (x : Role) → role k ≡ x → OfRole x k
kind_by k x e = subst (λ (y : Role). OfRole y k) e (of_role k)
