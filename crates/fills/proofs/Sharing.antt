-- Own and common fills say something for every member, soil and slope; and they say it by the fills of that member and the common ones alone.
use Prim.Native.Nat.{ℕ, zero, suc, ◌<◌}
use native.Mathlib.Decide.{ℕ_discrete}
use native.Mathlib.Omega.{arith}
use mathlib.Core.Path.{◌≡◌, refl, ap}
use mathlib.Core.List.{List, [], ◌∷◌, List-discrete}
use lib.ListN.{length, get_or}
use Rattle.arithmetic.proofs.Cases.{by_cases, both}
use Rattle.fields.specs.names.Names.{no_name}
use Rattle.fields.specs.declared.names.Name.{Name}
use Rattle.earth.specs.coefficients.Coefficients.{Coefficient}
use Rattle.std.proofs.Common.{None, Some}
use Rattle.fills.specs.declared.fill_rows.Fill.{Fill}
use Rattle.fills.specs.FillBook.{no_fill, Lists}
use Rattle.fills.specs.Says.{Lacks, Says, own, common, neither}

-- a fill of the list has this member, soil and slope, or none has
data Sought (fs : List Fill) (member : Name) (soil slope : ℕ) : Type 0 where
  found : (value : ℕ) → Lists fs member soil slope value → Sought fs member soil slope
  lacking : Lacks fs member soil slope → Sought fs member soil slope

name_known : (m n : Name) → Dec (m ≡ n)
name_known m n =
    by_cases (both (ℕ_discrete m.len n.len) (List-discrete ℕ_discrete m.bytes n.bytes))
    (λ w. yes (λ i. record { len = w.0 i; bytes = w.1 i }))
    (λ w. no (λ e. w (ap (λ (x : Name). x.len) e, ap (λ (x : Name). x.bytes) e)))

module _ (member : Name) (soil slope : ℕ) where
  -- whether a fill has them
  abbrev Has : Fill → Type 0
  Has f = (f.member ≡ member) × ((f.soil ≡ soil) × (f.slope ≡ slope))

  has_known : (f : Fill) → Dec (Has f)
  has_known f = both (name_known f.member member) (both (ℕ_discrete f.soil soil) (ℕ_discrete f.slope slope))

  behind : (f : Fill) (fs : List Fill) → (Has f → ⊥) → Sought fs member soil slope → Sought (f ∷ fs) member soil slope
  behind f fs n (found v l) = found v (record { at = suc l.at; within = omega (arith, l.within); is = l.is })
  behind f fs n (lacking k) = lacking (λ v l. elsewhere v l.at l.within l.is)
    where
      elsewhere : (v at : ℕ) → at < length (f ∷ fs) → get_or (f ∷ fs) at no_fill ≡ record { member = member; soil = soil; slope = slope; value = v } → ⊥
      elsewhere v zero w e = n (ap (λ (x : Fill). x.member) e, (ap (λ (x : Fill). x.soil) e, ap (λ (x : Fill). x.slope) e))
      elsewhere v (suc i) w e = k v (record { at = i; within = omega (arith, w); is = e })

  seek : (fs : List Fill) → Sought fs member soil slope
  seek [] = lacking (λ v l. omega (arith, l.within))
  seek (f ∷ fs) =
      by_cases (has_known f)
      (λ w. found f.value (record { at = 0; within = omega arith; is = λ i. record { member = w.0 i; soil = w.1.0 i; slope = w.1.1 i; value = f.value } }))
      (λ n. behind f fs n (seek fs))

-- what is said, by what is found in each
told : {owns commons : List Fill} {member : Name} {soil slope : ℕ} → Sought owns member soil slope → Sought commons no_name soil slope → (c : Coefficient) × Says owns commons member soil slope c
told (found v l) s = (Some v, own l refl)
told (lacking k) (found v l) = (Some v, common k l refl)
told (lacking k) (lacking m) = (None, neither k m refl)

-- something is said for every soil and slope
pub says_there : (owns commons : List Fill) (member : Name) → (fill : ℕ → ℕ → Coefficient) × ((soil slope : ℕ) → Says owns commons member soil slope (fill soil slope))
says_there owns commons member =
    let each : (soil slope : ℕ) → (c : Coefficient) × Says owns commons member soil slope c =
    λ soil slope. told (seek member soil slope owns) (seek no_name soil slope commons) in
    (λ soil slope. (each soil slope).0, λ soil slope. (each soil slope).1)

-- the same fills of a member, and the same common ones, say the same
module _ {owns commons owns' commons' : List Fill} {member : Name} {soil slope : ℕ}
    (there : (value : ℕ) → Lists owns member soil slope value → Lists owns' member soil slope value) (back : (value : ℕ) → Lists owns' member soil slope value → Lists owns member soil slope value)
    (common_there : (value : ℕ) → Lists commons no_name soil slope value → Lists commons' no_name soil slope value)
    (common_back : (value : ℕ) → Lists commons' no_name soil slope value → Lists commons no_name soil slope value) where
  pub says_shared : {c : Coefficient} → Says owns commons member soil slope c → Says owns' commons' member soil slope c
  says_shared (own {value} l e) = own (there value l) e
  says_shared (common {value} k l e) = common (λ v x. k v (back v x)) (common_there value l) e
  says_shared (neither k m e) = neither (λ v x. k v (back v x)) (λ v x. m v (common_back v x)) e
