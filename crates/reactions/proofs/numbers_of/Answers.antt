-- The record has one reading, its doubles are tested together, and what stands in the columns is judged by the table.
use Prim.Native.Nat.{ℕ}
use mathlib.Core.Path.{◌≡◌, refl, subst}
use mathlib.Core.Bool.{Bool, true, ◌&&◌}
use lib.Ieee.{Float}
use Rattle.arithmetic.specs.decides.Decides.{Decides}
use Rattle.arithmetic.proofs.Deciding.{decided}
use Rattle.doubles.specs.Doubles.{Finite}
use Rattle.fields.specs.Numbers.{absent, positive}
use Rattle.fields.specs.declared.Entry.{Entry}
use Rattle.kinds.specs.ranges.Range.{Ranged}
use Rattle.reactions.specs.declared.xdr.Reaction.{Reaction}
use Rattle.reactions.specs.xdr.steps.Reading.{RecordIs}
use Rattle.reactions.specs.Force.{kilonewtons, AllFinite}
use Rattle.reactions.specs.steps.Calling.{EntryIs}
use Rattle.reactions.proofs.Finite.{decides_finite}
use Rattle.reactions.proofs.Columns.{Found, rounded, outside, rounds_some}
use Rattle.reactions.proofs.numbers_of.Goals as goal

-- with the loads in kN
module _ (r : Reaction) {v h : Float} (v_is : v ≡ kilonewtons r.vertical) (h_is : h ≡ kilonewtons r.horizontal) where
  finite : (a b c d : Bool) → (((a && b) && c) && d) ≡ true → Decides a (Finite v) → Decides b (Finite r.x) → Decides c (Finite h) → Decides d (Finite r.y) → AllFinite r
  finite a b c d e p q s t =
      decided _ e
      (decides_finite r a b c d (subst (λ (x : Float). Decides a (Finite x)) v_is p) q (subst (λ (x : Float). Decides c (Finite x)) h_is s) t)

  found : (phase : ℕ) {n1 n2 n3 n4 n6 : Entry} → EntryIs v n1 → EntryIs r.x n2 → EntryIs h n3 → EntryIs r.y n4 → n6 ≡ absent
      → Found r phase (record { n1 = n1; n2 = n2; n3 = n3; n4 = n4; n5 = positive phase; n6 = n6 })
  found phase {n1} {n3 = n3} a b c d e = record {
    v = subst (λ (x : Float). EntryIs x n1) v_is a;
    x = b;
    h = subst (λ (x : Float). EntryIs x n3) h_is c;
    y = d;
    phased = refl;
    blank = e;
  }

pub returns-then-not-is_ranged : goal.returns-then-not-is_ranged
returns-then-not-is_ranged c =
    let r = c.in_ok-reaction.reaction in
    let is = subst (RecordIs _) c.in_ok-reaction.ensures.ok_part c.read_record.ensures in
    let all = finite r c.kilonewtons-v.ensures c.kilonewtons-h.ensures _ _ _ _ c.if-not-is_finite.false c.is_finite.ensures c.is_finite-2.ensures c.is_finite-3.ensures c.is_finite-4.ensures in
    let f = found r c.kilonewtons-v.ensures c.kilonewtons-h.ensures c.args.phase c.entry_of.ensures c.entry_of-2.ensures c.entry_of-3.ensures c.entry_of-4.ensures c.blank_entry.ensures in
    let some = rounds_some r all in
    (r, some.0, is, all, some.1, outside r _ _ _ f c.requires some.0 some.1 c.if-not-is_ranged.ensures)

pub returns : goal.returns
returns c =
    let r = c.in_ok-reaction.reaction in
    let is = subst (RecordIs _) c.in_ok-reaction.ensures.ok_part c.read_record.ensures in
    let all = finite r c.kilonewtons-v.ensures c.kilonewtons-h.ensures _ _ _ _ c.if-not-is_finite.false c.is_finite.ensures c.is_finite-2.ensures c.is_finite-3.ensures c.is_finite-4.ensures in
    let f = found r c.kilonewtons-v.ensures c.kilonewtons-h.ensures c.args.phase c.entry_of.ensures c.entry_of-2.ensures c.entry_of-3.ensures c.entry_of-4.ensures c.blank_entry.ensures in
    let w = rounded r _ _ _ f c.requires c.if-not-is_ranged.ensures in
    (r, w.0, is, all, w.1, subst (Ranged c.args.kind) w.2 c.if-not-is_ranged.ensures, w.2)
