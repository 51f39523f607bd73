-- What stands in the columns of the row: where every number is in its range, each is the nearest whole number; and numbers in their ranges are those that
-- stand there.
use Prim.Native.Nat.{ℕ, ◌≤◌}
use mathlib.Core.Path.{◌≡◌, sym, ap, subst, ◌∙◌}
use mathlib.Core.Bool.{true}
use mathlib.Core.Logic.{inl, inr}
use native.Mathlib.Omega.{arith}
use lib.IntN.{ℤ, nat_abs}
use lib.Ieee.{Float}
use Rattle.arithmetic.proofs.Cases.{impossible}
use Rattle.doubles.specs.Doubles.{Nearest}
use Rattle.doubles.proofs.Wholes.{nearest_one, nearest_some}
use Rattle.fields.specs.Numbers.{absent, positive}
use Rattle.fields.specs.declared.Entry.{Entry}
use Rattle.kinds.specs.ranges.Range.{InColumns, Ranged}
use Rattle.kinds.specs.declared.Kind.{Kind}
use Rattle.kinds.specs.declared.Columns.{Columns}
use Rattle.kinds.specs.declared.Numbers.{Numbers}
use Rattle.reactions.specs.declared.xdr.Reaction.{Reaction}
use Rattle.reactions.specs.Force.{kilonewtons, AllFinite}
use Rattle.reactions.specs.row.Text.{Rounded, entry, row_numbers}
use Rattle.reactions.specs.Asked.{Taken}
use Rattle.reactions.specs.Reacts.{Rounds}
use Rattle.reactions.specs.steps.Calling.{EntryIs}
use Rattle.reactions.proofs.Finite.{load_finite}
use Rattle.reactions.proofs.row.Written.{taken_columns, range_size}

-- a number that is there is the nearest
whole_of : (x : Float) (e : Entry) → EntryIs x e → e.filled ≡ true → (z : ℤ) × Nearest x z × (e ≡ entry z)
whole_of x e (inl w) f = w
whole_of x e (inr w) f = let t = sym f ∙ ap (λ (a : Entry). a.filled) w.0 in impossible cc

-- and a nearest number that is small is there
there : (x : Float) (e : Entry) (z : ℤ) → EntryIs x e → Nearest x z → nat_abs z ≤ 60000 → e ≡ entry z
there x e z (inl w) n s = w.2 ∙ ap entry (nearest_one x w.0 z w.1 n)
there x e z (inr w) n s = let h = w.1 z n in absurd (omega arith)

-- the row of a record, by what its columns were found to hold
pub record Found (r : Reaction) (phase : ℕ) (n : Numbers) : Type 0 where
  pub v : EntryIs (kilonewtons r.vertical) n.n1
  pub x : EntryIs r.x n.n2
  pub h : EntryIs (kilonewtons r.horizontal) n.n3
  pub y : EntryIs r.y n.n4
  pub phased : n.n5 ≡ positive phase
  pub blank : n.n6 ≡ absent

same_numbers : {m n : Numbers} → m.n1 ≡ n.n1 → m.n2 ≡ n.n2 → m.n3 ≡ n.n3 → m.n4 ≡ n.n4 → m.n5 ≡ n.n5 → m.n6 ≡ n.n6 → m ≡ n
same_numbers a b c d e f i = record { n1 = a i; n2 = b i; n3 = c i; n4 = d i; n5 = e i; n6 = f i }

module _ (r : Reaction) (kind : Kind) (phase : ℕ) (n : Numbers) (found : Found r phase n) (taken : Taken kind) where
  -- in their ranges: these are the nearest whole numbers
  pub rounded : Ranged kind n → (q : Rounded) × Rounds r q × (n ≡ row_numbers q phase)
  rounded ranged =
      let c = subst (λ (k : Columns). InColumns k n) (taken_columns taken) ranged in
      let v = whole_of (kilonewtons r.vertical) n.n1 found.v c.n1.filled in
      let x = whole_of r.x n.n2 found.x c.n2.filled in
      let h = whole_of (kilonewtons r.horizontal) n.n3 found.h c.n3.filled in
      let y = whole_of r.y n.n4 found.y c.n4.filled in
      (record { v = v.0; x = x.0; h = h.0; y = y.0 }, record { v = v.1; x = x.1; h = h.1; y = y.1 }, same_numbers v.2 x.2 h.2 y.2 found.phased found.blank)

  -- not in their ranges: nor are the nearest whole numbers
  pub outside : (q : Rounded) → Rounds r q → (Ranged kind n → ⊥) → Ranged kind (row_numbers q phase) → ⊥
  outside q near out ranged =
      let s = range_size q taken ranged in
      let is : n ≡ row_numbers q phase =
      same_numbers
      (there (kilonewtons r.vertical) n.n1 q.v found.v near.v (omega (arith, s.0)))
      (there r.x n.n2 q.x found.x near.x (omega (arith, s.1)))
      (there (kilonewtons r.horizontal) n.n3 q.h found.h near.h (omega (arith, s.2)))
      (there r.y n.n4 q.y found.y near.y (omega (arith, s.3)))
      found.phased
      found.blank in
      out (subst (Ranged kind) (sym is) ranged)

-- finite numbers go to whole ones
pub rounds_some : (r : Reaction) → AllFinite r → (q : Rounded) × Rounds r q
rounds_some r f =
    let v = nearest_some (kilonewtons r.vertical) (load_finite r.vertical f.vertical) in
    let x = nearest_some r.x f.x in
    let h = nearest_some (kilonewtons r.horizontal) (load_finite r.horizontal f.horizontal) in
    let y = nearest_some r.y f.y in
    (record { v = v.0; x = x.0; h = h.0; y = y.0 }, record { v = v.1; x = x.1; h = h.1; y = y.1 })
